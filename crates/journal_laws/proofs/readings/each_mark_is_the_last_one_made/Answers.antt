use Rattle.journal_laws.proofs.past.Places.{mark-left}
use Rattle.journal_laws.proofs.readings.each_mark_is_the_last_one_made.Goals as goal

pub returns : goal.returns
returns c = mark-left
