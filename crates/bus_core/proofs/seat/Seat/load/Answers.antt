use Rattle.bus_core.proofs.Cited.{slots_of, seen_of}
use Rattle.bus_core.proofs.seat.Seat.load.Goals as goal

pub returns-in-Some-clause-looked : goal.returns-in-Some-clause-looked
returns-in-Some-clause-looked g c v looked =
    c.restart.ensures.looked (slots_of (seen_of v))

pub returns-in_default-clause-looked : goal.returns-in_default-clause-looked
returns-in_default-clause-looked g c v looked =
    c.restart.ensures.looked (slots_of (seen_of v))
