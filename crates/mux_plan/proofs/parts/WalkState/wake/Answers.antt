use Rattle.mux_plan.proofs.Cited.{◌∙◌, AwaitClose, came_of}
use Rattle.mux_plan.proofs.Rooms.{top-tree}
use Rattle.mux_plan.proofs.parts.WalkState.wake.Goals as goal

pub returns-in-AwaitClose-clause-tree : goal.returns-in-AwaitClose-clause-tree
returns-in-AwaitClose-clause-tree c =
    let s = c.args.self.now in
    let w = c.in-AwaitClose in
    c.wake_close.ensures.tree
    ∙ top-tree s.route s.stack c.drop_top.new.self c.in-Some.task.now
    (AwaitClose w.hop w.mux w.work) c.in-Some.ensures.some w.is c.drop_top.ensures (came_of s.came)
