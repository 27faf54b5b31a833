use Rattle.bus_journal.proofs.Cited.{length}
use Rattle.bus_journal.proofs.line.+push_spaced.Given as goal

abbrev pub decreases-push_spaced : goal.decreases-push_spaced
decreases-push_spaced l = length l.bytes.now
