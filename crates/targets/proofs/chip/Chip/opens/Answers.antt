use Rattle.std.proofs.Common.{arith}
use Rattle.std.proofs.lemmas.Grind.{common_steps}
use Rattle.targets.proofs.chip.Chip.opens.Goals as goal

pub returns-then-has_bit : goal.returns-then-has_bit
returns-then-has_bit c = grind (arith, common_steps)

pub returns-else-has_bit : goal.returns-else-has_bit
returns-else-has_bit c = grind (arith, common_steps)
