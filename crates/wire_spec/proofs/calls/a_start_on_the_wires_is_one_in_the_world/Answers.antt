use Rattle.wire_spec.proofs.CallLaws.{start_on_wires, slow_on_wires}
use Rattle.wire_spec.proofs.calls.a_start_on_the_wires_is_one_in_the_world.Goals as goal

pub returns : goal.returns
returns c = record {
  in_time = start_on_wires c.chips_are_fair.ensures c.states_are_fair.ensures;
  slow = slow_on_wires c.chips_are_fair.ensures c.states_are_fair.ensures;
}
