use Rattle.bus_waves.proofs.ReadLemmas.{levels_tell}
use Rattle.bus_waves.proofs.laws.the_levels_tell_the_calls.Goals as goal

pub returns : goal.returns
returns c = levels_tell
