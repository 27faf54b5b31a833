use Rattle.bus_message.proofs.Cited.{◌≡◌, ◌+◌, ◌≤◌, ℕ, length, sym, ◌∙◌, ap, subst, MOST_CALLS, Purpose, block_limit, MessageView}
use Rattle.bus_message.proofs.Cited.{bytes_most, CursorView, root_port, device_of, message_for}
use Rattle.bus_message.proofs.PortLemmas.{call-sent}
use Rattle.bus_message.proofs.send.send_next.Goals as goal

pub send_message-requires-clause-start : goal.send_message-requires-clause-start
send_message-requires-clause-start g c κs within = (c.requires.may 0).start

pub send_message-requires-clause-room : goal.send_message-requires-clause-room
send_message-requires-clause-room g c κs within =
    λ tell.
    let v : CursorView = c.args.cursor.now in
    let wire : message_for v.transfer v.sent c.args.next.now.purpose c.args.next.now.control 0 ≡ c.message.result =
    ap (λ (p : Purpose). message_for v.transfer v.sent p c.args.next.now.control 0) c.in-Call.is ∙ sym c.message.ensures.value in
    subst (λ (n : ℕ). length (g.P.Port.log c.args.port.now) + (bytes_most n c.message.result + 2) ≤ MOST_CALLS)
    (sym (c.from-limit.ensures ∙ c.limit.ensures.value ∙ ap block_limit c.board.ensures.value))
    (subst (λ (m : MessageView). length (g.P.Port.log c.args.port.now) + (bytes_most (block_limit c.args.board.now) m + 2) ≤ MOST_CALLS)
    wire
    ((c.requires.may 0).room 0 tell))

pub send_control-requires-clause-start : goal.send_control-requires-clause-start
send_control-requires-clause-start g c κs within = (c.requires.may 0).start

pub send_control-requires-clause-room : goal.send_control-requires-clause-room
send_control-requires-clause-room g c κs within =
    λ addr tell.
    let v : CursorView = c.args.cursor.now in
    subst (λ (p : Purpose). length (g.P.Port.log c.args.port.now) +
    (bytes_most (block_limit c.args.board.now) (message_for v.transfer v.sent p c.args.next.now.control addr) + 2) ≤ MOST_CALLS)
    c.in-Control.is
    ((c.requires.may 0).room addr tell)

pub returns-in-Call : goal.returns-in-Call
returns-in-Call g c root =
    let v : CursorView = c.args.cursor.now in
    call-sent c.args.board.now g.P.Port.tells v.transfer v.sent c.args.next.now (root_port g.P.Port (root, c.args.port.now))
    (root_port g.P.Port (root, c.send_message.new.port))
    c.send_message.new.bytes c.send_message.result v.grant c.from-limit.result c.message.result c.device-hearer.result c.is_last.result
    c.in-Call.is c.message.ensures.value (c.requires.next c.in-Call.is).grants (c.device-hearer.ensures
    ∙ ap (λ (x : CursorView). device_of x.grant) c.cursor.view_is)
    (c.from-limit.ensures ∙ c.limit.ensures.value ∙ ap block_limit c.board.ensures.value) c.is_last.ensures
    (c.send_message.ensures.sent root)

pub returns-in-Control : goal.returns-in-Control
returns-in-Control g c root = c.send_control.ensures c.args.cursor.now.transfer c.args.cursor.now.sent root
