use Rattle.bus_laws.proofs.device.Stay.{opening-same}
use Rattle.bus_laws.proofs.devices.both_worlds_open_the_same.Goals as goal

pub returns : goal.returns
returns c = opening-same
