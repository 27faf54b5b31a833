use Rattle.addr_atr.proofs.RunLemmas.{history-same}
use Rattle.addr_atr.proofs.laws.a_history_behind_translators_is_the_same.Goals as goal

pub returns : goal.returns
returns c = λ b ts plain meets is_map rules. history-same b plain meets ts is_map rules
