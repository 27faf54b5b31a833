use Rattle.journal_check.proofs.Cited.{length}
use Rattle.journal_check.proofs.SectionLemmas.{IsBeside}
use Rattle.journal_check.proofs.sections.goes_on.Given as goal

abbrev pub invariant-loop-line : goal.invariant-loop-line
invariant-loop-line l = IsBeside l.due l.sections l.first l.rest l.more l.number

abbrev pub decreases-loop-line : goal.decreases-loop-line
decreases-loop-line l = length l.more
