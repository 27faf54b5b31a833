use Rattle.addr_atr.proofs.Cited.{tree_of}
use Rattle.addr_atr.proofs.CostLemmas.{translated-root}
use Rattle.addr_atr.proofs.laws.a_translated_transfer_stays_on_its_root.Goals as goal

pub returns : goal.returns
returns c = λ b ts t plain meets. translated-root b (tree_of b plain meets) ts t
