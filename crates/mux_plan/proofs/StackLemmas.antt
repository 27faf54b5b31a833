-- A list whose last element is left out, read from its end. No induction.
use Rattle.mux_plan.proofs.Cited.{◌≡◌, ℕ, ◌-◌, List, [], ◌∷◌, length, reverse, drop, refl, sym, ap, ◌∙◌, arith}
use Rattle.std.proofs.Common.{take, get_or}
use Rattle.std.proofs.lemmas.List.{take_all}
use Rattle.i2c_spec.proofs.HopLemmas.{reverse_back}

pub reverse_front : {X : Type 0} (xs : List X) → reverse (take (length xs - 1) xs) ≡ drop 1 (reverse xs)
reverse_front [] = refl
reverse_front (x ∷ xs) =
    let n : ℕ = length (x ∷ xs) in
    let back : reverse (take n (x ∷ xs)) ≡ get_or (x ∷ xs) (n - 1) x ∷ reverse (take (n - 1) (x ∷ xs)) =
    reverse_back (x ∷ xs) n x (omega arith) (omega arith) in
    let whole : take n (x ∷ xs) ≡ x ∷ xs = take_all n (x ∷ xs) (omega arith) in
    sym (ap (λ (ys : List _). drop 1 ys) (sym (ap reverse whole) ∙ back))
