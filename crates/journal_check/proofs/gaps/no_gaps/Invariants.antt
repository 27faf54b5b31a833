use Rattle.journal_check.proofs.Cited.{◌≡◌, [], length, BoardView, AreGapsOf}
use Rattle.journal_check.proofs.gaps.no_gaps.Given as goal

abbrev pub invariant-loop : goal.invariant-loop
invariant-loop l = (length l.gaps.items ≡ l.counter) × ((b : BoardView) → AreGapsOf b [] l.gaps.items)
