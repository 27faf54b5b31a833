use Rattle.wire_spec.proofs.Cited.{refl}
use Rattle.wire_spec.specs.Bus.{pulled, looked, await, bit_step, bit_steps}
use Rattle.wire_spec.proofs.examples.a_clock_that_is_held_for_65_looks_is_given_up.Goals as goal

pub returns : goal.returns
unfolding pulled looked await bit_step bit_steps
returns c = record { up = refl; counts = refl; stopped = refl; longer = refl; risen = refl }
