use Rattle.i2c_spec.proofs.StateLemmas.{states_fair}
use Rattle.i2c_spec.proofs.fair_targets.states_are_fair.Goals as goal

pub returns : goal.returns
returns c = states_fair
