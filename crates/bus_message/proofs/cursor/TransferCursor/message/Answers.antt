use Rattle.bus_message.proofs.Cited.{◌≡◌, ◌<◌, length, sym, ◌∙◌, ap, subst, take, sum_by, written_of, call_message, CursorView}
use Rattle.bus_message.proofs.PartwayLemmas.{message_here}
use Rattle.bus_message.proofs.cursor.TransferCursor.message.Goals as goal

pub returns-clause-value : goal.returns-clause-value
returns-clause-value c =
    let own = c.self.inside in
    let more : own.sent < length own.transfer.now.msgs = subst (λ (v : CursorView). v.sent < length v.transfer.msgs)
    (sym c.self.view_is) c.requires.more in
    let wrote : own.written ≡ sum_by written_of (take own.sent own.transfer.now.msgs) =
    subst (λ (v : CursorView). v.written ≡ sum_by written_of (take v.sent v.transfer.msgs)) (sym c.self.view_is) c.requires.wrote in
    rw (
      c.part.ensures,
      c.from-3.ensures,
      c.written-len.ensures,
      c.from-2.ensures,
      c.out.ensures.value,
      c.is_read.ensures,
      c.is_counted.ensures,
    )
    (message_here own.transfer.now own.sent own.written more wrote c.msgs.ensures.kept
    c.index-msgs-from.result c.msgs.result.now c.from.result c.index-msgs-from.is c.msgs.ensures.value c.from.ensures
    ∙ ap (λ (v : CursorView). call_message v.transfer v.sent) c.self.view_is)
