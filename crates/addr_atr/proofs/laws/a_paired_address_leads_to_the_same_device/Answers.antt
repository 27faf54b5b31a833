use Rattle.addr_atr.proofs.TranslateLemmas.{lowered-grant}
use Rattle.addr_atr.proofs.laws.a_paired_address_leads_to_the_same_device.Goals as goal

pub returns : goal.returns
returns c = λ b ts plain meets is_map rules. lowered-grant b plain meets ts is_map rules
