use Rattle.wire_spec.proofs.Cited.{node_table}
use Rattle.wire_spec.proofs.StartLaws.{repeated_written, repeated_out}
use Rattle.wire_spec.proofs.starts.a_repeated_start_calls_all_that_is_joined.Goals as goal

pub returns : goal.returns
returns c = record { written = repeated_written node_table; out = repeated_out node_table }
