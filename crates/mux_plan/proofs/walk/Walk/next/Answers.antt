use Rattle.mux_plan.proofs.Cited.{List, drop, sym, ◌∙◌, ap, subst, first_act, Task, WalkView, tree_of, came_of, looked_of, IsStep}
use Rattle.mux_plan.specs.Plans.{action_of}
use Rattle.mux_plan.proofs.Openings.{first_of-task}
use Rattle.mux_plan.proofs.walk.Walk.next.Goals as goal

pub returns-clause-first : goal.returns-clause-first
returns-clause-first c =
    let p = c.self.inside.parts in
    let e = c.in-Some.ensures.some in
    c.action.ensures.first
    ∙ ap action_of (sym (first_of-task p.route c.in-Some.task.now (drop 1 p.stack) (came_of p.came)
    (subst IsStep (sym (ap (λ (w : WalkView). w.looked) c.self.view_is) ∙ e) c.requires))
    ∙ ap (λ (ts : List Task). first_act (tree_of p.route ts (came_of p.came))) (sym e)
    ∙ ap (λ (w : WalkView). first_act (looked_of w)) c.self.view_is)
