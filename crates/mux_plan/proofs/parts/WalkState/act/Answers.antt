use Rattle.mux_plan.proofs.Cited.{◌∙◌, ap, WalkTree, rest_of, Lock, Rest, came_of, outcome_of}
use Rattle.mux_plan.proofs.Rooms.{top-tree}
use Rattle.mux_plan.proofs.parts.WalkState.act.Goals as goal

pub returns-in-Lock-clause-tree : goal.returns-in-Lock-clause-tree
returns-in-Lock-clause-tree c =
    let s = c.args.self.now in
    let w = c.in-Lock in
    c.lock.ensures.tree (came_of c.lock.new.self.came) (came_of s.came) (outcome_of c.args.outcome.now)
    ∙ ap (λ (t : WalkTree). rest_of t (outcome_of c.args.outcome.now))
    (top-tree s.route s.stack c.drop_top.new.self c.in-Some.task.now
    (Lock w.from w.place w.work) c.in-Some.ensures.some w.is c.drop_top.ensures (came_of s.came))

pub returns-in-Rest-clause-tree : goal.returns-in-Rest-clause-tree
returns-in-Rest-clause-tree c =
    let s = c.args.self.now in
    let w = c.in-Rest in
    c.message.ensures.tree (came_of s.came)
    ∙ ap (λ (t : WalkTree). rest_of t (outcome_of c.args.outcome.now))
    (top-tree s.route s.stack c.drop_top-in-Rest.new.self c.in-Some.task.now
    (Rest w.left w.work) c.in-Some.ensures.some w.is c.drop_top-in-Rest.ensures (came_of s.came))
