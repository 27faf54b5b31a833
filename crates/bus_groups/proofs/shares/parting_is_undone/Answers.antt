use Rattle.bus_groups.proofs.ShareLemmas.{undone}
use Rattle.bus_groups.proofs.shares.parting_is_undone.Goals as goal

pub returns : goal.returns
returns c = undone
