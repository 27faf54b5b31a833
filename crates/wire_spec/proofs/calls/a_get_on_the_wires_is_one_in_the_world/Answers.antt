use Rattle.wire_spec.proofs.CallLaws.{get_on_wires}
use Rattle.wire_spec.proofs.calls.a_get_on_the_wires_is_one_in_the_world.Goals as goal

pub returns : goal.returns
returns c = get_on_wires c.chips_are_fair.ensures c.states_are_fair.ensures
