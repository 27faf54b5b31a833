use Rattle.i2c_drivers.proofs.DriverLemmas.{asks_within_limits}
use Rattle.i2c_drivers.proofs.laws.each_transfer_is_within_the_limits.Goals as goal

pub returns : goal.returns
returns c = asks_within_limits
