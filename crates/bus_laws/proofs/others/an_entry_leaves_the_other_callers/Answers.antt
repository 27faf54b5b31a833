use Rattle.bus_laws.proofs.past.Others.{others-stay}
use Rattle.bus_laws.proofs.others.an_entry_leaves_the_other_callers.Goals as goal

pub returns : goal.returns
returns c = others-stay
