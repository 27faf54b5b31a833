use Rattle.journal_check.proofs.Cited.{length}
use Rattle.journal_check.proofs.FormLemmas.{IsReading}
use Rattle.journal_check.proofs.form.behind_heading.Given as goal

abbrev pub invariant-loop-line : goal.invariant-loop-line
invariant-loop-line l = IsReading l.text l.rest l.number

abbrev pub decreases-loop-line : goal.decreases-loop-line
decreases-loop-line l = length l.rest
