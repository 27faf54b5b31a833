use Rattle.bus_laws.proofs.walk.HoldsLaw.{walk-holds}
use Rattle.bus_laws.proofs.walks.each_walk_holds_its_locks.Goals as goal

pub returns : goal.returns
returns c = walk-holds
