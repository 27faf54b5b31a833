use Rattle.std.proofs.Common.{refl}
use Rattle.wire_spec.specs.Bus.{pulled, looked, await, bit_step, bit_steps}
use Rattle.bus_waves.proofs.laws.a_start_that_was_too_slow_is_read_otherwise.Goals as goal

pub returns : goal.returns
unfolding pulled looked await bit_step bit_steps
returns c = refl
