use Rattle.journal_check.proofs.Cited.{◌≡◌, ℕ, ◌<◌, IsOverIn}
use Rattle.journal_check.proofs.open.least_open.Given as goal

abbrev pub invariant-loop-caller : goal.invariant-loop-caller
invariant-loop-caller g l =
    record { same : l.core ≡ l.fn.core; before : (d : ℕ) → d < l.caller → IsOverIn g.C.Caller.asked l.fn.core d }
