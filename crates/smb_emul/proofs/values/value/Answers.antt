use Rattle.std.proofs.Common.{arith}
use Rattle.std.proofs.lemmas.Grind.{common_steps}
use Rattle.smb_emul.proofs.values.value.Goals as goal

pub returns-in-CountedBlock : goal.returns-in-CountedBlock
returns-in-CountedBlock c = grind (arith, common_steps)
