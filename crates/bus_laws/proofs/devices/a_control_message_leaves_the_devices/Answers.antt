use Rattle.bus_laws.proofs.device.Stay.{chip-control, control-same}
use Rattle.bus_laws.proofs.devices.a_control_message_leaves_the_devices.Goals as goal

pub returns : goal.returns
returns c = record { unheard = chip-control; same = control-same }
