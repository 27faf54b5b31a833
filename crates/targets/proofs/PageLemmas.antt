-- One place more of a page that takes what waits. The inductions go over the places.
use Rattle.std.proofs.Common.{◌≡◌, ℕ, zero, suc, ◌+◌, List, [], ◌∷◌, take, set, get_or, Option, Some, None, unwrap_or, refl, ap, arith}
use Rattle.i2c_spec.specs.Targets.EepromDevice.{taken_in}

taken-none : (waiting : List (Option ℕ)) (page : List ℕ) (i : ℕ) → get_or waiting i None ≡ None
    → taken_in (take (suc i) waiting) page ≡ taken_in (take i waiting) page
taken-none [] page zero none = refl
taken-none [] page (suc i) none = refl
taken-none (w ∷ ws) [] zero none = refl
taken-none (w ∷ ws) [] (suc i) none = refl
taken-none (w ∷ ws) (byte ∷ bytes) zero none = ap (λ (o : Option ℕ). unwrap_or o byte ∷ bytes) none
taken-none (w ∷ ws) (byte ∷ bytes) (suc i) none = ap (λ (bs : List ℕ). unwrap_or w byte ∷ bs) (taken-none ws bytes i none)

taken-some : (waiting : List (Option ℕ)) (page : List ℕ) (i new : ℕ) → get_or waiting i None ≡ Some new
    → taken_in (take (suc i) waiting) page ≡ set (taken_in (take i waiting) page) i new
taken-some [] page i new some = absurd (let f : None ≡ Some new = some in cc)
taken-some (w ∷ ws) [] zero new some = refl
taken-some (w ∷ ws) [] (suc i) new some = refl
taken-some (w ∷ ws) (byte ∷ bytes) zero new some = ap (λ (o : Option ℕ). unwrap_or o byte ∷ bytes) some
taken-some (w ∷ ws) (byte ∷ bytes) (suc i) new some = ap (λ (bs : List ℕ). unwrap_or w byte ∷ bs) (taken-some ws bytes i new some)

pub more-none : (waiting : List (Option ℕ)) (page : List ℕ) (i : ℕ) → get_or waiting i None ≡ None
    → taken_in (take (i + 1) waiting) page ≡ taken_in (take i waiting) page
more-none waiting page i none = rw (let e : i + 1 ≡ suc i = omega arith in e) (taken-none waiting page i none)

pub more-some : (waiting : List (Option ℕ)) (page : List ℕ) (i new : ℕ) → get_or waiting i None ≡ Some new
    → taken_in (take (i + 1) waiting) page ≡ set (taken_in (take i waiting) page) i new
more-some waiting page i new some = rw (let e : i + 1 ≡ suc i = omega arith in e) (taken-some waiting page i new some)
