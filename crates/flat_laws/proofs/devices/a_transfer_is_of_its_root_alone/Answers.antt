use Rattle.flat_laws.proofs.device.Flat.{flat-same, flat-elsewhere}
use Rattle.flat_laws.proofs.devices.a_transfer_is_of_its_root_alone.Goals as goal

pub returns : goal.returns
returns c = record { same = flat-same; others = flat-elsewhere }
