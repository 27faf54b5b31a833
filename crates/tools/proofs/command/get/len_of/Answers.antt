use Rattle.tools.proofs.Cited.{arith, common_steps}
use Rattle.tools.proofs.command.get.len_of.Goals as goal

pub returns : goal.returns
returns c = grind (arith, common_steps)
