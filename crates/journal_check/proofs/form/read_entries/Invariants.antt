use Rattle.journal_check.proofs.Cited.{◌≡◌, length}
use Rattle.journal_check.proofs.FormLemmas.{IsTelling}
use Rattle.journal_check.proofs.form.read_entries.Given as goal

abbrev pub invariant-loop-line : goal.invariant-loop-line
invariant-loop-line l = IsTelling l.board l.text l.rest l.first l.number l.gaps × (length l.gaps ≡ length l.fn.gaps)

abbrev pub decreases-loop-line : goal.decreases-loop-line
decreases-loop-line l = length l.rest
