use Rattle.mux_plan.proofs.Cited.{◌≡◌, length, tree_of, came_of, IsPlanned}
use Rattle.mux_plan.proofs.parts.WalkState.resume.Given as goal

-- the tree stays the same
abbrev pub invariant-waiting : goal.invariant-waiting
invariant-waiting l = record {
  planned : IsPlanned l.self.route l.self.stack;
  route : l.self.route ≡ l.fn.self.route;
  same : tree_of l.self.route l.self.stack (came_of l.self.came) ≡ tree_of l.fn.self.route l.fn.self.stack
      (came_of l.fn.self.came);
}

abbrev pub decreases-waiting : goal.decreases-waiting
decreases-waiting l = length l.self.stack
