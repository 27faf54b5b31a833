use Rattle.wire_spec.proofs.Cited.{refl}
use Rattle.wire_spec.specs.Bus.{pulled, looked, await, bit_step, bit_steps}
use Rattle.wire_spec.proofs.examples.a_register_read_has_38_rises.Goals as goal

pub returns : goal.returns
unfolding pulled looked await bit_step bit_steps
returns c = record { seen = refl; read = refl; counts = refl }
