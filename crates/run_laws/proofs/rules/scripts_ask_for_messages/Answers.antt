use Rattle.run_laws.proofs.Asked.{messages-asked, limits-kept}
use Rattle.run_laws.proofs.rules.scripts_ask_for_messages.Goals as goal

pub returns : goal.returns
returns c = record {
  messages = messages-asked c.scripts_are_fair.ensures;
  limits = limits-kept c.scripts_are_fair.ensures;
}
