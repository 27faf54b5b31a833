use Rattle.std.proofs.Common.{refl}
use Rattle.tools.specs.Tables.{parts}
use Rattle.i2c_drivers.proofs.examples.sixteen_bytes_stand_on_a_line.Goals as goal

pub returns-clause-one : goal.returns-clause-one
unfolding parts
returns-clause-one c = refl

pub returns-clause-two : goal.returns-clause-two
unfolding parts
returns-clause-two c = refl
