use Rattle.mux_plan.proofs.Cited.{reverse, sym, ◌∙◌, ap, subst, first_act, first_note, updates_after, WalkView, came_of, outcome_of}
use Rattle.mux_plan.proofs.Cited.{looked_of, IsStep}
use Rattle.mux_plan.proofs.MarksTold.{no-updates}
use Rattle.mux_plan.proofs.walk.Walk.updates.Goals as goal

pub returns-in_default-top : goal.returns-in_default-top
returns-in_default-top c =
    let p = c.self.inside.parts in
    let o = outcome_of c.args.outcome.now in
    c.empty.ensures
    ∙ sym (no-updates p.route (came_of p.came) o p.stack c.in-Some.top.now (reverse c.in-Some.below.now) c.in-Some.ensures.some
    (subst (λ (w : WalkView). IsStep w.looked) (sym c.self.view_is) c.requires)
    c.in_default-top.not-Rest c.in_default-top.not-Line)
    ∙ ap (λ (w : WalkView). updates_after (first_act (looked_of w)) (first_note (looked_of w)) o) c.self.view_is
