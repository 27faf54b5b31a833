-- One element more of a list that is gone through, and what stands at a place of a list.
use Rattle.i2c_physics.proofs.Cited.{◌≡◌, ℕ, ◌+◌, ◌<◌, ◌++◌, List, [], ◌∷◌, length, take, get_or, Bool, true, false, cond, Option, Some}
use Rattle.i2c_physics.proofs.Cited.{None, append-nil, sym, ◌∙◌, ap, filter, option_map_or, filter_more, slice_get-get_or, slice_get_past}
use Rattle.std.proofs.Common.{Bor}
use Rattle.std.specs.List.{slice_get}
use Rattle.std.specs.Slice.{IsItemAt}

-- the elements that pass a test, where one more is kept, and where it is left out
pub kept-more
    : (p : ℕ → Bool) (xs : List ℕ) (i : ℕ) (b : Bool) (old new : List ℕ) → i < length xs → b ≡ true → b ≡ p (get_or xs i 0)
    → old ≡ filter p (take i xs) → new ≡ old ++ get_or xs i 0 ∷ [] → new ≡ filter p (take (i + 1) xs)
kept-more p xs i b old new low kept is before grown =
    let x = get_or xs i 0 in
    grown ∙ ap (λ (ys : List ℕ). ys ++ x ∷ []) before ∙ ap (λ (c : Bool). filter p (take i xs) ++ cond c (x ∷ []) []) (sym kept ∙ is)
    ∙ sym (filter_more p xs i 0 low)

pub left-more
    : (p : ℕ → Bool) (xs : List ℕ) (i : ℕ) (b : Bool) (old : List ℕ) → i < length xs → b ≡ false → b ≡ p (get_or xs i 0)
    → old ≡ filter p (take i xs) → old ≡ filter p (take (i + 1) xs)
left-more p xs i b old low left is before =
    let x = get_or xs i 0 in
    before ∙ sym (append-nil (filter p (take i xs))) ∙ ap (λ (c : Bool). filter p (take i xs) ++ cond c (x ∷ []) []) (sym left ∙ is)
    ∙ sym (filter_more p xs i 0 low)

-- what is asked of the element that a place lends is asked of the element there
pub at-place
    : {X : Type 0} (f : X → Bool) (xs : List X) (k : ℕ) (o : Option (Bor X)) → IsItemAt xs k o
    → option_map_or (λ p. f p.now) o false ≡ option_map_or f (slice_get xs k) false
at-place {X} f xs k None at = sym (ap (λ (o : Option X). option_map_or f o false) (slice_get_past xs k at.3))
at-place {X} f xs k (Some p) at = ap f at.1 ∙ sym (ap (λ (o : Option X). option_map_or f o false) (slice_get-get_or xs k p.now at.3.0))
