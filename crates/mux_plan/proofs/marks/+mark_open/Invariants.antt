use Rattle.mux_plan.proofs.Cited.{length}
use Rattle.mux_plan.proofs.marks.+mark_open.Given as goal

abbrev pub decreases-mark_open : goal.decreases-mark_open
decreases-mark_open l = length l.tasks.now
