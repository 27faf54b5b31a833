use Rattle.bus_groups.proofs.Cited.{◌≡◌, ◌==◌, false, ◌&&◌, get_or, range_with_len, list_any, names}
use Rattle.bus_groups.proofs.homes.names_home.Given as goal

abbrev pub invariant-loop-root : goal.invariant-loop-root
invariant-loop-root l = list_any (λ root. names l.mask root && (get_or l.homes root 0 == l.home)) (range_with_len 0 l.root) ≡ false
