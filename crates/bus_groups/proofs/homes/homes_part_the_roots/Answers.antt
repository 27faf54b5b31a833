use Rattle.bus_groups.proofs.HomeLemmas.{are-homes}
use Rattle.bus_groups.proofs.homes.homes_part_the_roots.Goals as goal

pub returns : goal.returns
returns c = are-homes
