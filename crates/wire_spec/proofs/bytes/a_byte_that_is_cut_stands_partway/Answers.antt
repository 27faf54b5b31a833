use Rattle.wire_spec.proofs.Cited.{node_table}
use Rattle.wire_spec.proofs.ByteLaws.{cut_put, cut_address, cut_get}
use Rattle.wire_spec.proofs.bytes.a_byte_that_is_cut_stands_partway.Goals as goal

pub returns : goal.returns
returns c = record { put = cut_put node_table; address = cut_address node_table; get = cut_get node_table }
