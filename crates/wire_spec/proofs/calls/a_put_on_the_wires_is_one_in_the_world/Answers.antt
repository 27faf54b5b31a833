use Rattle.wire_spec.proofs.CallLaws.{put_on_wires}
use Rattle.wire_spec.proofs.calls.a_put_on_the_wires_is_one_in_the_world.Goals as goal

pub returns : goal.returns
returns c = put_on_wires
