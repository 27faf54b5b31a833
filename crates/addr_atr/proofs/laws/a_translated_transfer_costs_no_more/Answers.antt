use Rattle.addr_atr.proofs.Cited.{tree_of}
use Rattle.addr_atr.proofs.CostLemmas.{translated-limits, translated-fits, translated-costs}
use Rattle.addr_atr.proofs.laws.a_translated_transfer_costs_no_more.Goals as goal

pub returns-clause-limits : goal.returns-clause-limits
returns-clause-limits c = translated-limits

pub returns-clause-fits : goal.returns-clause-fits
returns-clause-fits c = translated-fits

pub returns-clause-costs : goal.returns-clause-costs
returns-clause-costs c = λ b ts t plain meets. translated-costs b ts t (tree_of b plain meets)
