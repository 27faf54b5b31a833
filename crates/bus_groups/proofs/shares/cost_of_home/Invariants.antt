use Rattle.bus_groups.proofs.Cited.{◌≡◌, ◌+◌, drop, cost_of_home}
use Rattle.bus_groups.proofs.shares.cost_of_home.Given as goal

abbrev pub invariant-loop-place : goal.invariant-loop-place
invariant-loop-place l = l.all + cost_of_home (drop l.place l.homes) l.home (drop l.place l.costs) ≡ cost_of_home l.homes l.home l.costs
