use Rattle.bus_journal.proofs.ReportLemmas.{reports_are_distinct}
use Rattle.bus_journal.proofs.laws.a_report_tells_its_journal.Goals as goal

pub returns : goal.returns
returns c = reports_are_distinct
