use Rattle.addr_atr.proofs.TranslateLemmas.{same-told, others-left}
use Rattle.addr_atr.proofs.laws.a_translated_transfer_does_the_same.Goals as goal

pub returns-clause-same : goal.returns-clause-same
returns-clause-same c = λ b ts plain meets is_map rules. same-told b plain meets ts is_map rules

pub returns-clause-others : goal.returns-clause-others
returns-clause-others c = λ b ts plain meets is_map rules. others-left b plain meets ts is_map rules
