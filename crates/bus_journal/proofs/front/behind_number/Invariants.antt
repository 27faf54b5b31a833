use Rattle.bus_journal.proofs.Cited.{◌≡◌, length, behind_number}
use Rattle.bus_journal.proofs.front.behind_number.Given as goal

abbrev pub invariant-loop-rest : goal.invariant-loop-rest
invariant-loop-rest l = behind_number l.rest ≡ behind_number l.text

abbrev pub decreases-loop-rest : goal.decreases-loop-rest
decreases-loop-rest l = length l.rest
