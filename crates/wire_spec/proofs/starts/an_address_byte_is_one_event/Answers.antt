use Rattle.wire_spec.proofs.Cited.{node_table}
use Rattle.wire_spec.proofs.StartLemmas.{node_fair}
use Rattle.wire_spec.proofs.StartLaws.{address_is_event}
use Rattle.wire_spec.proofs.starts.an_address_byte_is_one_event.Goals as goal

pub returns : goal.returns
returns c = address_is_event node_table (node_fair c.chips_are_fair.ensures c.states_are_fair.ensures)
