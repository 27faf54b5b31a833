use Rattle.reg_cache.proofs.Cited.{◌≡◌, drop, pair_at}
use Rattle.reg_cache.proofs.known.pair_at.Given as goal

abbrev pub invariant-loop-device : goal.invariant-loop-device
invariant-loop-device l = pair_at (drop l.device-index l.kept) l.access ≡ pair_at l.kept l.access
