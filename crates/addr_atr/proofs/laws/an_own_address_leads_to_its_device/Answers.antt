use Rattle.addr_atr.proofs.Cited.{tree_of}
use Rattle.addr_atr.proofs.OwnLemmas.{own-grant}
use Rattle.addr_atr.proofs.laws.an_own_address_leads_to_its_device.Goals as goal

pub returns : goal.returns
returns c = λ b plain meets d x at. own-grant b (tree_of b plain meets) plain.planted d x at
