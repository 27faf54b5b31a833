use Rattle.mux_plan.proofs.Cited.{◌≡◌, ◌-◌, ◌∷◌, length, JobOutcome, seen, Enter, tree_of, slots_of, IsPlanned}
use Rattle.mux_plan.proofs.parts.WalkState.enter.Given as goal

-- the tree after its looks stays the same
abbrev pub invariant-muxes : goal.invariant-muxes
invariant-muxes l = record {
  planned : IsPlanned l.self.route (Enter l.place l.work ∷ l.self.stack);
  route : l.self.route ≡ l.fn.self.route;
  came : l.self.came ≡ l.fn.self.came;
  same : (out : JobOutcome)
      → seen (slots_of l.seen) (tree_of l.self.route (Enter l.place l.work ∷ l.self.stack) out)
      ≡ seen (slots_of l.seen) (tree_of l.fn.self.route (Enter l.fn.place l.fn.work ∷ l.fn.self.stack) out);
}

abbrev pub decreases-muxes : goal.decreases-muxes
decreases-muxes l = length l.self.route.path - l.place
