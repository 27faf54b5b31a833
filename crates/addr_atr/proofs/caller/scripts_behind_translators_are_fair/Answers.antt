use Rattle.addr_atr.proofs.FairLemmas.{callers-fair, covered}
use Rattle.addr_atr.proofs.caller.scripts_behind_translators_are_fair.Goals as goal

pub returns-clause-fair : goal.returns-clause-fair
returns-clause-fair c = callers-fair

pub returns-clause-covered : goal.returns-clause-covered
returns-clause-covered c = covered
