use Rattle.bus_laws.proofs.walk.Waits.{all-ended}
use Rattle.bus_laws.proofs.waiting.not_all_wait.Goals as goal

pub returns : goal.returns
returns c = λ b trees held numbers holder v kept all i w at. all-ended b trees held numbers holder v kept all i w at
