use Rattle.mux_plan.proofs.Cited.{List, drop, sym, ◌∙◌, ap, subst, first_act, Task, WalkView, tree_of, came_of, looked_of, IsStep}
use Rattle.mux_plan.proofs.Openings.{no_settle}
use Rattle.mux_plan.proofs.walk.Walk.settles.Goals as goal

pub returns-in_default-task : goal.returns-in_default-task
returns-in_default-task c =
    let p = c.self.inside.parts in
    let e = c.in-Some.ensures.some in
    record {
      some = tt;
      none = λ verdict is h.
          no_settle p.route c.in-Some.task.now (drop 1 p.stack) (came_of p.came)
          (subst IsStep (sym (ap (λ (w : WalkView). w.looked) c.self.view_is) ∙ e) c.requires)
          c.in_default-task.not-Settle verdict
          (ap (λ (ts : List Task). first_act (tree_of p.route ts (came_of p.came))) (sym e)
          ∙ ap (λ (w : WalkView). first_act (looked_of w)) c.self.view_is ∙ h);
    }
