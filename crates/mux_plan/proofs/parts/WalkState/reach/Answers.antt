use Rattle.mux_plan.proofs.Cited.{List, sym, subst, Task, IsPlanned}
use Rattle.mux_plan.proofs.parts.WalkState.reach.Goals as goal

pub returns-clause-planned : goal.returns-clause-planned
returns-clause-planned c = λ n h.
    subst (λ (ts : List Task). IsPlanned c.args.self.now.route ts) (sym c.push.ensures)
    (c.base-task.ensures.planned n c.args.self.now.stack h)
