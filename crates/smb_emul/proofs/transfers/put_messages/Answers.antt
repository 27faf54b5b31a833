use Rattle.std.proofs.Common.{arith}
use Rattle.std.proofs.lemmas.Grind.{common_steps}
use Rattle.smb_emul.proofs.transfers.put_messages.Goals as goal

pub add_write-requires : goal.add_write-requires
add_write-requires c = grind (arith, common_steps)

pub add_read-requires-clause-room : goal.add_read-requires-clause-room
add_read-requires-clause-room c = grind (arith, common_steps)

pub returns : goal.returns
returns c = grind (arith, common_steps)
