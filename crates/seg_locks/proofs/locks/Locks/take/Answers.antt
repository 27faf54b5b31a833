use Rattle.std.proofs.Common.{arith}
use Rattle.std.proofs.lemmas.Grind.{common_steps}
use Rattle.seg_locks.proofs.locks.Locks.take.Goals as goal

pub returns-in_ok-occupy-in-Mux-clause-mark : goal.returns-in_ok-occupy-in-Mux-clause-mark
returns-in_ok-occupy-in-Mux-clause-mark c = grind (arith, common_steps)
