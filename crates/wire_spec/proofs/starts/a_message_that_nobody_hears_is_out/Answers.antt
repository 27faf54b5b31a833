use Rattle.wire_spec.proofs.Cited.{node_table}
use Rattle.wire_spec.proofs.StartLaws.{unheard_out}
use Rattle.wire_spec.proofs.starts.a_message_that_nobody_hears_is_out.Goals as goal

pub returns : goal.returns
returns c = unheard_out node_table
