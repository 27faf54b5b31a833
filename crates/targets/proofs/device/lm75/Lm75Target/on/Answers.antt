use Rattle.std.proofs.Common.{arith}
use Rattle.std.proofs.lemmas.Grind.{common_steps}
use Rattle.targets.proofs.device.lm75.Lm75Target.on.Goals as goal

pub returns-after-reading-clause-after : goal.returns-after-reading-clause-after
returns-after-reading-clause-after c = grind (arith, common_steps)
