use Rattle.wire_spec.proofs.Cited.{refl}
use Rattle.wire_spec.specs.Bus.{pulled, looked}
use Rattle.wire_spec.proofs.examples.two_that_send_at_once_are_read_as_their_and.Goals as goal

pub returns : goal.returns
unfolding pulled looked
returns c = refl
