-- The line of a mux that is set, by its number.
use Rattle.bus_lines.proofs.Cited.{◌≡◌, ℕ, zero, suc, ◌<◌, ◌≤◌, List, [], ◌∷◌, length, set, get_or, refl, ap, arith, Bit, NodeState}
use Rattle.bus_lines.proofs.Cited.{levelled_bits, at_node_level}

pub levelled_set : (m level : ℕ) (bs : List (Bit NodeState)) (d y : Bit NodeState) → m < length bs → y ≡ at_node_level level (get_or bs m d)
    → set bs m y ≡ levelled_bits m level bs
levelled_set m level [] d y lt is = absurd (omega (arith, lt))
levelled_set zero level (b ∷ bs) d y lt is = ap (λ (c : Bit NodeState). c ∷ bs) is
levelled_set (suc m) level (b ∷ bs) d y lt is = ap (λ cs. b ∷ cs) (levelled_set m level bs d y (omega (arith, lt)) is)

pub levelled_none : (m level : ℕ) (bs : List (Bit NodeState)) → length bs ≤ m → bs ≡ levelled_bits m level bs
levelled_none m level [] le = refl
levelled_none zero level (b ∷ bs) le = absurd (omega (arith, le))
levelled_none (suc m) level (b ∷ bs) le = ap (λ cs. b ∷ cs) (levelled_none m level bs (omega (arith, le)))
