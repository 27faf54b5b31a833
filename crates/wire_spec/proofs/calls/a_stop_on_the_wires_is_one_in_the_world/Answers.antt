use Rattle.wire_spec.proofs.Cited.{node_table}
use Rattle.wire_spec.proofs.StartLaws.{stop_written, stop_out}
use Rattle.wire_spec.proofs.CallLaws.{stop_on_wires}
use Rattle.wire_spec.proofs.calls.a_stop_on_the_wires_is_one_in_the_world.Goals as goal

pub returns : goal.returns
returns c = record { written = stop_on_wires _ (stop_written node_table); out = stop_on_wires _ (stop_out node_table) }
