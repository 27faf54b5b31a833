use Rattle.bus_laws.proofs.device.Stay.{talk-elsewhere, talk-unnamed}
use Rattle.bus_laws.proofs.devices.a_message_leaves_other_devices.Goals as goal

pub returns : goal.returns
returns c = record { world = talk-elsewhere; flat = talk-unnamed }
