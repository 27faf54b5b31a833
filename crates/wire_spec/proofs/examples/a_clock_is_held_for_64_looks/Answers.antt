use Rattle.wire_spec.proofs.Cited.{refl}
use Rattle.wire_spec.specs.Bus.{pulled, looked, await, bit_step, bit_steps}
use Rattle.wire_spec.proofs.examples.a_clock_is_held_for_64_looks.Goals as goal

pub returns : goal.returns
unfolding pulled looked await bit_step bit_steps
returns c = record { held = refl; risen = refl; up = refl; counts = refl }
