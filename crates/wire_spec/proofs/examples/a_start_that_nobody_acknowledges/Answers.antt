use Rattle.wire_spec.proofs.Cited.{refl}
use Rattle.wire_spec.specs.Bus.{pulled, looked}
use Rattle.wire_spec.proofs.examples.a_start_that_nobody_acknowledges.Goals as goal

pub returns : goal.returns
unfolding pulled looked
returns c = refl
