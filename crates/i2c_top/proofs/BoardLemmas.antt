-- What a text says of a board, it says once: it is a board or is refused, and for one cause. No induction.
use Rattle.i2c_top.proofs.Cited.{◌≡◌, ℕ, List, Option, Some, Result, Ok, Err, sym, ap, subst, ◌∙◌, BoardView, MeetsRules, TellsBroken}
use Rattle.i2c_top.proofs.Cited.{IsAccepted, IsRejected, HasAccepted, HasRejected, Files, BoardRefusal, broken_breaks, one_broken}
use Rattle.i2c_boardtext.specs.BoardText.{board_of}
use Rattle.i2c_boardtext.specs.declared.fault.BoardFault.{BoardFault}
use Rattle.i2c_top.specs.declared.status.BoardRefusal.TheVariants as refusal

-- a result is one
both : (r : Result BoardView BoardFault) (b : BoardView) (f : BoardFault) → r ≡ Ok b → r ≡ Err f → ⊥
both r b f e k = absurd (let h : Ok b ≡ Err f = sym e ∙ k in cc)

abbrev board_or : BoardView → Result BoardView BoardFault → BoardView
board_or b (Ok x) = x
board_or b (Err e) = b

abbrev fault_or : BoardFault → Result BoardView BoardFault → BoardFault
fault_or f (Ok x) = f
fault_or f (Err e) = e

one_board : (r : Result BoardView BoardFault) (a b : BoardView) → r ≡ Ok a → r ≡ Ok b → a ≡ b
one_board r a b e k = ap (board_or a) (sym e ∙ k)

pub one_board_of : (text : List ℕ) (a b : BoardView) → IsAccepted text a → IsAccepted text b → a ≡ b
one_board_of text a b h k = one_board (board_of text) a b h.read k.read

one_fault : (r : Result BoardView BoardFault) (f g : BoardFault) → r ≡ Err f → r ≡ Err g → f ≡ g
one_fault r f g e k = ap (fault_or f) (sym e ∙ k)

-- a text that spells a board which meets the rules is not refused for its text or a rule
pub is_no_rejected : (text : List ℕ) (b : BoardView) (why : BoardRefusal) → IsAccepted text b → IsRejected text why → ⊥
is_no_rejected text b (refusal.Fault f) is n = both (board_of text) b f is.read n.read
is_no_rejected text b (refusal.Rule r) is n = broken_breaks n.board r n.broken
    (subst MeetsRules (one_board (board_of text) b n.board is.read n.read) is.rules)

pub one_refusal : (text : List ℕ) (a b : BoardRefusal) → IsRejected text a → IsRejected text b → a ≡ b
one_refusal text (refusal.Fault f) (refusal.Fault g) h k = ap (λ x. refusal.Fault x) (one_fault (board_of text) f g h.read k.read)
one_refusal text (refusal.Fault f) (refusal.Rule r) h k = absurd (both (board_of text) k.board f k.read h.read)
one_refusal text (refusal.Rule r) (refusal.Fault f) h k = absurd (both (board_of text) h.board f h.read k.read)
one_refusal text (refusal.Rule r) (refusal.Rule s) h k =
    ap (λ x. refusal.Rule x) (one_broken k.board r s
    (subst (λ b. TellsBroken b r) (one_board (board_of text) h.board k.board h.read k.read) h.broken) k.broken)

-- so of its file
pub one_text : (o : Option (List ℕ)) (a b : List ℕ) → o ≡ Some a → o ≡ Some b → a ≡ b
one_text o a b e f = let h : Some a ≡ Some b = sym e ∙ f in cc

pub no_board : (file : Files) (name : List ℕ) (why : BoardRefusal) → HasAccepted file name → HasRejected file name why → ⊥
no_board file name why b n =
    is_no_rejected b.text b.board why b.is_accepted
    (subst (λ t. IsRejected t why) (one_text (file name) n.text b.text n.there b.there) n.is_rejected)

pub one_why : (file : Files) (name : List ℕ) (why why_now : BoardRefusal) → HasRejected file name why → HasRejected file name why_now
    → why_now ≡ why
one_why file name why why_now b n =
    one_refusal b.text why_now why
    (subst (λ t. IsRejected t why_now) (one_text (file name) n.text b.text n.there b.there) n.is_rejected) b.is_rejected

pub one_board_in : (file : Files) (name : List ℕ) (a b : HasAccepted file name) → a.board ≡ b.board
one_board_in file name a b =
    one_board_of b.text a.board b.board
    (subst (λ t. IsAccepted t a.board) (one_text (file name) a.text b.text a.there b.there) a.is_accepted) b.is_accepted
