-- Numbers of targets, each once: one more, and how many there can be.
use Rattle.bus_lines.proofs.Cited.{◌≡◌, ℕ, ◌==◌, ◌<◌, ◌≤◌, Bool, true, false, ◌||◌, List, [], ◌∷◌, ◌++◌, length, refl, sym, ap, ◌∙◌, subst}
use Rattle.bus_lines.proofs.Cited.{inl, inr, arith, AllByRecursion, eqb_tells, length-append, is_among, AreNumbers, or_regroup, or_parts}
use Rattle.bus_lines.proofs.Cited.{or-false}
use Rattle.std.specs.List.{IsDistinct}
use Rattle.std.proofs.lemmas.Map.Steps.{length-le_from_distinct_below}
use Rattle.bus_lines.proofs.AddressLemmas.{same_of}

pub no_numbers : (room : ℕ) (ns : List ℕ) → ns ≡ [] → AreNumbers room ns
unfolding IsDistinct
no_numbers room ns none =
    subst (AreNumbers room) (sym none) (record { apart = tt; below = λ k among. absurd (let e : false ≡ true = among in cc) })

-- they are no more than there are targets
pub numbers_fit : (room : ℕ) (ns : List ℕ) → AreNumbers room ns → length ns ≤ room
numbers_fit room ns are = length-le_from_distinct_below ns room are.apart are.below

-- one more after them is among them
pub among_more : (ns : List ℕ) (n k : ℕ) → is_among (ns ++ n ∷ []) k ≡ (is_among ns k || (k == n))
among_more [] n k = or-false (k == n)
among_more (m ∷ ms) n k = ap (λ b. (k == m) || b) (among_more ms n k) ∙ or_regroup (k == m) (is_among ms k) (k == n)

differ : (m n : ℕ) (b : Bool) → (n == m) ≡ b → b ≡ false → (m == n) ≡ false
differ m n b at other = elim (eqb_tells m n) [
  | inl x ↦ absurd (elim (eqb_tells n m) [
    | inl y ↦ (let e : true ≡ false = sym y.0 ∙ at ∙ other in cc)
    | inr y ↦ y.1 (sym x.1)
  ])
  | inr x ↦ x.0
]

apart_more : (m n : ℕ) (ns : List ℕ) → AllByRecursion (λ k. (m == k) ≡ false) ns → (m == n) ≡ false
    → AllByRecursion (λ k. (m == k) ≡ false) (ns ++ n ∷ [])
apart_more m n [] all other = (other, tt)
apart_more m n (k ∷ ks) all other = (all.0, apart_more m n ks all.1 other)

distinct_more : (ns : List ℕ) (n : ℕ) → IsDistinct (λ k m. k == m) ns → is_among ns n ≡ false → IsDistinct (λ k m. k == m) (ns ++ n ∷ [])
unfolding IsDistinct
distinct_more [] n d out = (tt, tt)
distinct_more (m ∷ ms) n d out =
    let parts = or_parts (n == m) (is_among ms n) out in
    (apart_more m n ms d.0 (differ m n (n == m) refl parts.0), distinct_more ms n d.1 parts.1)

below_more : (room n k : ℕ) (ns : List ℕ) (a b : Bool) → is_among ns k ≡ a → (k == n) ≡ b → (a || b) ≡ true
    → ((j : ℕ) → is_among ns j ≡ true → j < room) → n < room → k < room
below_more room n k ns true b is at either below lt = below k is
below_more room n k ns false true is at either below lt = subst (λ m. m < room) (sym (same_of k n at)) lt
below_more room n k ns false false is at either below lt = absurd (let e : false ≡ true = either in cc)

pub one_more : (room : ℕ) (ns : List ℕ) (n : ℕ) → AreNumbers room ns → is_among ns n ≡ false → n < room → AreNumbers room (ns ++ n ∷ [])
one_more room ns n are out lt =
    record {
      apart = distinct_more ns n are.apart out;
      below = λ k among. below_more room n k ns (is_among ns k) (k == n) refl refl (sym (among_more ns n k) ∙ among) are.below lt;
    }

-- there is room for one more
pub room_more : (room : ℕ) (ns : List ℕ) (n : ℕ) → AreNumbers room ns → is_among ns n ≡ false → n < room → length ns < room
room_more room ns n are out lt =
    omega (arith, numbers_fit room (ns ++ n ∷ []) (one_more room ns n are out lt), length-append ns (n ∷ []))
