use Rattle.wire_spec.proofs.Cited.{node_table}
use Rattle.wire_spec.proofs.StartLaws.{out_sees, quiet_stays, some_are_all}
use Rattle.wire_spec.proofs.starts.an_edge_changes_only_who_is_in_the_message.Goals as goal

pub returns : goal.returns
returns c = record { out = out_sees node_table; quiet = quiet_stays node_table; some = some_are_all }
