use Rattle.wire_spec.proofs.Cited.{node_table}
use Rattle.wire_spec.proofs.Clocks.{get_clocks}
use Rattle.wire_spec.proofs.ByteLaws.{gets_are_events}
use Rattle.wire_spec.proofs.bytes.a_byte_that_is_read_is_one_event.Goals as goal

pub returns : goal.returns
returns c = record { target = get_clocks node_table; lines = gets_are_events node_table }
