use Rattle.caller_core.proofs.Cited.{ap, ◌∙◌, cost_of_script, CallerView}
use Rattle.caller_core.proofs.caller.Script.cost.Goals as goal

pub returns-clause-value : goal.returns-clause-value
returns-clause-value c = c.self.invariant.0.cost_is ∙ ap (λ (v : CallerView). cost_of_script v.script) c.self.view_is
