use Rattle.mux_plan.proofs.Cited.{◌∙◌, ap, is_over, WalkView, came_of}
use Rattle.mux_plan.specs.Plans.{walk_of}
use Rattle.mux_plan.proofs.StepsLeft.{is_over-empty, both-over}
use Rattle.mux_plan.proofs.walk.Walk.is_over.Goals as goal

pub returns : goal.returns
returns c =
    let w = c.self.inside in
    let came = came_of w.parts.came in
    is_over-empty w.parts.route w.parts.stack came c.is_empty.result c.self.invariant.ready c.is_empty.ensures.empty c.is_empty.ensures.some
    ∙ both-over w.parts.route came w.before.value w.parts.stack c.self.invariant
    ∙ ap (λ (x : WalkView). is_over (walk_of x)) c.self.view_is
