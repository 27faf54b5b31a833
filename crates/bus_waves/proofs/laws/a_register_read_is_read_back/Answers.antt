use Rattle.std.proofs.Common.{refl}
use Rattle.wire_spec.specs.Bus.{pulled, looked}
use Rattle.bus_waves.proofs.laws.a_register_read_is_read_back.Goals as goal

pub returns : goal.returns
unfolding pulled looked
returns c = refl
