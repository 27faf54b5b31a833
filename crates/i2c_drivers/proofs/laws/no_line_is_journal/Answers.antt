use Rattle.i2c_drivers.proofs.DriverLemmas.{no_journal}
use Rattle.i2c_drivers.proofs.laws.no_line_is_journal.Goals as goal

pub returns : goal.returns
returns c = no_journal
