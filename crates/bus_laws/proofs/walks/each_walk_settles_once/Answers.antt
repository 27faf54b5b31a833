use Rattle.bus_laws.proofs.walk.SettleLaw.{walk-settles}
use Rattle.bus_laws.proofs.walks.each_walk_settles_once.Goals as goal

pub returns : goal.returns
returns c = walk-settles
