use Rattle.bus_laws.proofs.past.Known.{callers-known}
use Rattle.bus_laws.proofs.others.who_asks_for_nothing_never_steps.Goals as goal

pub returns : goal.returns
returns c = λ b callers fewer asks silent past steps. (callers-known b callers fewer asks silent past steps).0
