use Rattle.std.proofs.Common.{arith}
use Rattle.std.proofs.lemmas.Grind.{common_steps}
use Rattle.smb_emul.proofs.transfers.add_read.Goals as goal

pub returns-after-coded : goal.returns-after-coded
returns-after-coded c = grind (arith, common_steps)
