use Rattle.std.proofs.Common.{arith}
use Rattle.std.proofs.lemmas.Grind.{common_steps}
use Rattle.targets.proofs.chip.ChipTarget.on.Goals as goal

pub returns-in-Put-clause-after : goal.returns-in-Put-clause-after
returns-in-Put-clause-after c = grind (arith, common_steps)
