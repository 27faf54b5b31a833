use Rattle.bus_groups.proofs.Cited.{◌≡◌, length, fold, range_with_len, lower}
use Rattle.bus_groups.proofs.homes.least_home.Given as goal

abbrev pub invariant-loop-root : goal.invariant-loop-root
invariant-loop-root l = l.low ≡ fold (lower l.homes l.mask) (length l.homes) (range_with_len 0 l.root)
