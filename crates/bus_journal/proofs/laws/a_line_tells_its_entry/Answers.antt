use Rattle.bus_journal.proofs.Whole.{lines_are_distinct}
use Rattle.bus_journal.proofs.laws.a_line_tells_its_entry.Goals as goal

pub returns : goal.returns
returns c = lines_are_distinct
