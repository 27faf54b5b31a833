use Rattle.caller_core.proofs.Cited.{arith, common_steps}
use Rattle.caller_core.proofs.script.fault_at.Goals as goal

pub returns-in-Word : goal.returns-in-Word
returns-in-Word c = grind (arith, common_steps)
