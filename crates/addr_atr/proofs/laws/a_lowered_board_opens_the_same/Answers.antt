use Rattle.addr_atr.proofs.Cited.{tree_of}
use Rattle.addr_atr.proofs.OpenLemmas.{lowered-opens}
use Rattle.addr_atr.proofs.RouteLemmas.{lowered-plain}
use Rattle.addr_atr.proofs.laws.a_lowered_board_opens_the_same.Goals as goal

pub returns-clause-plain : goal.returns-clause-plain
returns-clause-plain c = λ b ts plain meets is_map. lowered-plain b plain (tree_of b plain meets) ts is_map

pub returns-clause-opened : goal.returns-clause-opened
returns-clause-opened c = λ b ts plain meets is_map. lowered-opens b plain (tree_of b plain meets) ts is_map
