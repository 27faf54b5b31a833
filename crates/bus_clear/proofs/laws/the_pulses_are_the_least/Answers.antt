use Rattle.bus_clear.proofs.LawLemmas.{least}
use Rattle.bus_clear.proofs.laws.the_pulses_are_the_least.Goals as goal

pub returns : goal.returns
returns c w addr cut some few = least w addr cut few
