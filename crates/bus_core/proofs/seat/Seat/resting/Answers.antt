use Rattle.bus_core.proofs.Cited.{slots_of, seen_of}
use Rattle.bus_core.proofs.seat.Seat.resting.Goals as goal

pub returns-clause-looked : goal.returns-clause-looked
returns-clause-looked g c v = c.ended-walk.ensures.looked (slots_of (seen_of v))
