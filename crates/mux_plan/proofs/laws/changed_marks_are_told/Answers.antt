use Rattle.mux_plan.proofs.MuxUpdates.{tells-after, on-after}
use Rattle.mux_plan.proofs.laws.changed_marks_are_told.Goals as goal

pub returns : goal.returns
returns c = record { told = tells-after; held = on-after }
