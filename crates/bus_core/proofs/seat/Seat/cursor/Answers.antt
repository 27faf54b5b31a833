use Rattle.bus_core.proofs.seat.Seat.cursor.Goals as goal

pub returns-clause-whole : goal.returns-clause-whole
returns-clause-whole g c = c.grant.ensures.whole
