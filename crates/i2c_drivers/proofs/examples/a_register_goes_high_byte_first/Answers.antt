use Rattle.std.proofs.Common.{refl}
use Rattle.std.specs.Fmt.{digits}
use Rattle.i2c_drivers.proofs.examples.a_register_goes_high_byte_first.Goals as goal

pub returns-clause-read : goal.returns-clause-read
unfolding digits
returns-clause-read c = refl

pub returns-clause-cold : goal.returns-clause-cold
unfolding digits
returns-clause-cold c = refl
