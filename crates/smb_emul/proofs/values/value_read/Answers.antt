use Rattle.std.proofs.Common.{arith}
use Rattle.std.proofs.lemmas.Grind.{common_steps}
use Rattle.smb_emul.proofs.values.value_read.Goals as goal

pub returns-then-got-want : goal.returns-then-got-want
returns-then-got-want c = grind (arith, common_steps)
