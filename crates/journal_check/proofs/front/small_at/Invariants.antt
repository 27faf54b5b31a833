use Rattle.journal_check.proofs.Cited.{◌≡◌, ◌<◌, length}
use Rattle.bus_journal.specs.Guess.{number_from}
use Rattle.journal_check.proofs.front.small_at.Given as goal

abbrev pub invariant-loop-longer : goal.invariant-loop-longer
invariant-loop-longer l = (l.number < 65536) × (number_from l.number l.rest ≡ number_from 0 l.text)

abbrev pub decreases-loop-longer : goal.decreases-loop-longer
decreases-loop-longer l = length l.rest
