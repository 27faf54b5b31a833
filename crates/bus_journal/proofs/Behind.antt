-- What is put into a room after a text, piece by piece, stands behind it in the order of the pieces.
use Rattle.bus_journal.proofs.Cited.{◌≡◌, ℕ, List, ◌++◌, append_assoc, sym, ap, ◌∙◌}

-- the end of a line, after its front
pub put_behind : (out new room all front more : List ℕ) → new ++ room ≡ out ++ front → all ≡ room ++ more
    → new ++ all ≡ out ++ (front ++ more)
put_behind out new room all front more is is_all =
    ap (λ (xs : List ℕ). new ++ xs) is_all
    ∙ (sym (append_assoc new room more) ∙ (ap (λ (xs : List ℕ). xs ++ more) is ∙ append_assoc out front more))

-- pieces that were put one behind the other
pub four_pieces : (a b c d : List ℕ) → ((a ++ b) ++ c) ++ d ≡ a ++ (b ++ (c ++ d))
four_pieces a b c d = simp append_assoc

pub five_pieces : (a b c d e : List ℕ) → (((a ++ b) ++ c) ++ d) ++ e ≡ a ++ (b ++ (c ++ (d ++ e)))
five_pieces a b c d e = simp append_assoc

pub seven_pieces : (a b c d e f g : List ℕ)
    → ((a ++ (b ++ (c ++ (d ++ e)))) ++ f) ++ g ≡ a ++ (b ++ (c ++ (d ++ (e ++ (f ++ g)))))
seven_pieces a b c d e f g = simp append_assoc
