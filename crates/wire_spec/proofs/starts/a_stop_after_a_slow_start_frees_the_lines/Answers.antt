use Rattle.wire_spec.proofs.Cited.{node_table}
use Rattle.wire_spec.proofs.StartLaws.{slow_frees}
use Rattle.wire_spec.proofs.starts.a_stop_after_a_slow_start_frees_the_lines.Goals as goal

pub returns : goal.returns
returns c = slow_frees node_table
