use Rattle.caller_core.proofs.FairLemmas.{scripts_fair}
use Rattle.caller_core.proofs.caller.scripts_are_fair.Goals as goal

pub returns : goal.returns
returns c = scripts_fair
