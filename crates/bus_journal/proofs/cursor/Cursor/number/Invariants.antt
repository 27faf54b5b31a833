use Rattle.bus_journal.proofs.Cited.{◌≡◌, ◌<◌, length, number_from, behind_number}
use Rattle.bus_journal.proofs.cursor.Cursor.number.Given as goal

abbrev pub invariant-loop-longer : goal.invariant-loop-longer
invariant-loop-longer l = (l.number < 65536) × (number_from l.number l.self ≡ number_from 0 l.fn.self)
    × (behind_number l.self ≡ behind_number l.fn.self)

abbrev pub decreases-loop-longer : goal.decreases-loop-longer
decreases-loop-longer l = length l.self
