use Rattle.wire_spec.proofs.CallLaws.{late_stop_on_wires}
use Rattle.wire_spec.proofs.calls.a_stop_after_a_slow_start_is_one_in_the_world.Goals as goal

pub returns : goal.returns
returns c = late_stop_on_wires c.devices_hold_bytes.ensures.kept
