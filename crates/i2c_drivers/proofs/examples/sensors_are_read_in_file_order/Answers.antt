use Rattle.std.proofs.Common.{refl}
use Rattle.std.specs.Fmt.{digits}
use Rattle.i2c_drivers.proofs.examples.sensors_are_read_in_file_order.Goals as goal

pub returns-clause-lines : goal.returns-clause-lines
unfolding digits
returns-clause-lines c = refl
