use Rattle.bus_laws.proofs.device.Stops.{world-settled, flat-settled}
use Rattle.bus_laws.proofs.devices.a_transfer_ends_in_a_stop.Goals as goal

pub returns : goal.returns
returns c = record { world = world-settled; flat = flat-settled }
