use Rattle.mux_plan.proofs.Cited.{List, sym, ◌∙◌, ap, subst, seen, Task, came_of, tree_of, IsStep}
use Rattle.mux_plan.specs.declared.task.Work.TheVariants as work
use Rattle.mux_plan.proofs.Openings.{seen-step}
use Rattle.mux_plan.proofs.walk.Walk.begin.Goals as goal

pub returns-clause-looked : goal.returns-clause-looked
returns-clause-looked c = λ v.
    let route = c.start.new.self.route in
    let came = came_of c.start.new.self.came in
    let step = subst IsStep (sym c.start.ensures.stack) tt in
    record {
      step = step;
      same = sym (ap (λ (ts : List Task). seen v (tree_of route ts came)) c.of.ensures
          ∙ seen-step route v c.start.new.self.stack came step);
    }
