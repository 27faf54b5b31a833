use Rattle.bus_groups.proofs.Cited.{◌≡◌, range_with_len}
use Rattle.bus_groups.proofs.homes.own_homes.Given as goal

abbrev pub invariant-loop-root : goal.invariant-loop-root
invariant-loop-root l = l.homes.items ≡ range_with_len 0 l.root
