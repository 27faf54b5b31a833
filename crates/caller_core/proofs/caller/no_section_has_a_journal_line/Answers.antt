use Rattle.caller_core.proofs.SectionLemmas.{no_journal_line}
use Rattle.caller_core.proofs.caller.no_section_has_a_journal_line.Goals as goal

pub returns : goal.returns
returns c = no_journal_line
