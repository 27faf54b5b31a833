use Rattle.wire_spec.proofs.Cited.{node_table}
use Rattle.wire_spec.proofs.Repeats.{free_start}
use Rattle.wire_spec.proofs.starts.a_start_calls_all_that_is_joined.Goals as goal

pub returns : goal.returns
returns c = free_start node_table
