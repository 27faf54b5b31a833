use Rattle.i2c_spec.proofs.StateLemmas.{opening-quiet}
use Rattle.i2c_spec.proofs.fair_targets.openings_are_quiet.Goals as goal

pub returns-clause-devices : goal.returns-clause-devices
returns-clause-devices c = opening-quiet
