use Rattle.flat_laws.proofs.device.Parts.{part-grows}
use Rattle.flat_laws.proofs.devices.a_transfer_grows_by_one_message.Goals as goal

pub returns : goal.returns
returns c = part-grows
