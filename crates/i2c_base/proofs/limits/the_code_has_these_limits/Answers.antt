use Rattle.std.proofs.Common.{arith}
use Rattle.std.proofs.lemmas.Grind.{common_steps}
use Rattle.i2c_base.proofs.limits.the_code_has_these_limits.Goals as goal

pub returns-clause-run : goal.returns-clause-run
returns-clause-run c = grind (arith, common_steps)

pub returns-clause-transfer : goal.returns-clause-transfer
returns-clause-transfer c = grind (arith, common_steps)
