use Rattle.core_laws.proofs.Opens.{core-opened}
use Rattle.core_laws.proofs.opening.an_opening_keeps_the_whole.Goals as goal

pub returns : goal.returns
returns c run whole opened = core-opened run whole opened
