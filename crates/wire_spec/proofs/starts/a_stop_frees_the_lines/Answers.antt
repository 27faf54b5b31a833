use Rattle.wire_spec.proofs.Cited.{node_table}
use Rattle.wire_spec.proofs.StartLaws.{stop_written, stop_out}
use Rattle.wire_spec.proofs.starts.a_stop_frees_the_lines.Goals as goal

pub returns : goal.returns
returns c = record { written = stop_written node_table; out = stop_out node_table }
