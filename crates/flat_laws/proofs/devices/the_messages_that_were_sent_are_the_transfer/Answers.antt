use Rattle.flat_laws.proofs.device.Parts.{part-whole}
use Rattle.flat_laws.proofs.devices.the_messages_that_were_sent_are_the_transfer.Goals as goal

pub returns : goal.returns
returns c = part-whole
