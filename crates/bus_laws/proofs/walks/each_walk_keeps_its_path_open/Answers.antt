use Rattle.bus_laws.proofs.tree.Law.{walk-runs}
use Rattle.bus_laws.proofs.walks.each_walk_keeps_its_path_open.Goals as goal

pub returns : goal.returns
returns c = walk-runs
