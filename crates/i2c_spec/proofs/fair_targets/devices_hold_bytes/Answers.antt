use Rattle.i2c_spec.proofs.StateLemmas.{opening-bytes, states_keep_bytes}
use Rattle.i2c_spec.proofs.fair_targets.devices_hold_bytes.Goals as goal

pub returns-clause-opened : goal.returns-clause-opened
returns-clause-opened c = opening-bytes

pub returns-clause-kept : goal.returns-clause-kept
returns-clause-kept c = states_keep_bytes
