use Rattle.bus_core.proofs.Cited.{arith}
use Rattle.i2c_base.proofs.TransferLemmas.{written_size}
use Rattle.bus_message.proofs.PartwayLemmas.{written_within}
use Rattle.bus_core.proofs.seat.Seat.count.Goals as goal

pub overflow_add-self : goal.overflow_add-self
overflow_add-self g c =
    let s = c.args.self.now in
    let m = c.index-msgs-from.result in
    let kept = c.msgs.ensures.kept in
    let most = written_within s.transfer s.sent s.written c.requires.more c.requires.wrote kept
    m c.msgs.result.now c.from.result c.index-msgs-from.is c.msgs.ensures.value c.from.ensures in
    let out = written_size s.transfer.msgs kept.each in
    omega (arith, most, out, kept.written, kept.size, c.written.ensures, c.requires.more)
