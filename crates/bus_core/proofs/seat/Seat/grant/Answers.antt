use Rattle.bus_core.proofs.Cited.{ap, refl, sum_by, written_of, MessageView}
use Rattle.std.proofs.Common.{take}
use Rattle.i2c_spec.specs.Grant.{grant_of}
use Rattle.bus_message.proofs.PartwayLemmas.{message_here}
use Rattle.bus_core.proofs.seat.Seat.grant.Goals as goal

pub returns-in-Call-clause-grants : goal.returns-in-Call-clause-grants
returns-in-Call-clause-grants g c own =
    let s = c.args.self.now in
    let here = message_here s.transfer s.sent (sum_by written_of (take s.sent s.transfer.msgs))
    (c.requires.more own) refl c.msgs.ensures.kept
    c.index-msgs-from.result c.msgs.result.now c.from.result c.index-msgs-from.is c.msgs.ensures.value c.from.ensures in
    rw (c.grant.ensures, c.bus-bus.ensures, c.force.ensures)
    (ap (λ (m : MessageView). grant_of c.args.board.now s.transfer.bus m.addr s.transfer.force) here)

pub returns-in-Call-clause-whole : goal.returns-in-Call-clause-whole
returns-in-Call-clause-whole g c own = c.msgs.ensures.kept
