use Rattle.journal_laws.proofs.past.Places.{walk-left}
use Rattle.journal_laws.proofs.readings.each_walk_is_what_its_entries_left.Goals as goal

pub returns : goal.returns
returns c = walk-left
