use Rattle.wire_spec.proofs.Cited.{node_table}
use Rattle.wire_spec.proofs.Clocks.{put_clocks}
use Rattle.wire_spec.proofs.ByteLaws.{puts_are_events}
use Rattle.wire_spec.proofs.bytes.a_byte_that_is_put_is_one_event.Goals as goal

pub returns : goal.returns
returns c = record { target = put_clocks node_table; lines = puts_are_events node_table }
