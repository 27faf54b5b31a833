-- One target alone is told of an event, and nobody.
use Rattle.i2c_physics.proofs.Cited.{◌≡◌, ℕ, ◌<◌, List, [], ◌∷◌, length, get_or, set, refl, ap, ◌∙◌, arith, Event, Answer, Table, feed}
use Rattle.i2c_physics.proofs.Cited.{answers, to_those}
use Rattle.i2c_physics.proofs.WiredAndLemmas.{untold-fed, untold-answered, told-fed, told-answered}

module _ {X : Type 0} (t : Table X) (event : Event) (xs : List X) where
  -- the number is read as i
  module _ (n i : ℕ) (is : i ≡ n) (d : X) (there : n < length xs) where
    pub alone-fed : (y : X) → y ≡ t.after (get_or xs i d) event → set xs i y ≡ feed t (to_those (n ∷ []) event) 0 xs
    alone-fed = told-fed (n ∷ []) 1 0 i (length xs) (omega arith, there, tt) refl (omega arith) is t event xs xs d refl
        (untold-fed t event (n ∷ []) xs)

    pub alone-answered : (a : Answer) → a ≡ t.answer (get_or xs i d) event → answers t (to_those (n ∷ []) event) 0 xs ≡ (n, a) ∷ []
    alone-answered a said =
        told-answered (n ∷ []) 1 0 i (length xs) (omega arith, there, tt) refl (omega arith) is t event xs xs d refl
        (untold-fed t event (n ∷ []) xs) a said
        ∙ ap (λ rest. (n, a) ∷ rest) (untold-answered t event (n ∷ []) xs)

  pub nobody-fed : (numbers : List ℕ) → length numbers < 1 → xs ≡ feed t (to_those numbers event) 0 xs
  nobody-fed [] none = untold-fed t event [] xs
  nobody-fed (n ∷ ns) none = absurd (omega arith)

  pub nobody-answered : (numbers : List ℕ) → length numbers < 1 → answers t (to_those numbers event) 0 xs ≡ []
  nobody-answered [] none = untold-answered t event [] xs
  nobody-answered (n ∷ ns) none = absurd (omega arith)
