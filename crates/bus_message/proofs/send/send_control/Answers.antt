use Rattle.bus_message.proofs.Cited.{◌+◌, ◌≤◌, ℕ, Option, Some, None, length, sym, ◌∙◌, ap, subst, MOST_CALLS, block_limit, bytes_most}
use Rattle.bus_message.proofs.Cited.{control_message, addr_of_mux, root_port}
use Rattle.bus_message.proofs.PortLemmas.{control-sent}
use Rattle.bus_message.proofs.send.send_control.Goals as goal

pub returns-in-Some : goal.returns-in-Some
returns-in-Some g c t sent root =
    control-sent c.args.board.now g.P.Port.tells t sent c.args.next.now (root_port g.P.Port (root, c.args.port.now))
    (root_port g.P.Port (root, c.send_message.new.port))
    c.send_message.new.bytes c.send_message.result c.args.mux c.chip_addr-addr.result c.from-limit.result (Some c.in-Some.byte)
    c.requires.control c.in-Some.is
    (λ a there. c.chip_addr-addr.ensures a (ap (λ b. addr_of_mux b c.args.mux) c.board-2.ensures.value ∙ there)) (c.from-limit.ensures
    ∙ c.limit.ensures.value ∙ ap block_limit c.board.ensures.value) (c.send_message.ensures.sent root)

pub returns-in-None : goal.returns-in-None
returns-in-None g c t sent root =
    control-sent c.args.board.now g.P.Port.tells t sent c.args.next.now (root_port g.P.Port (root, c.args.port.now))
    (root_port g.P.Port (root, c.send_message-in-None.new.port))
    c.send_message-in-None.new.bytes c.send_message-in-None.result c.args.mux c.chip_addr-addr.result c.from-limit.result None
    c.requires.control c.in-None.is
    (λ a there. c.chip_addr-addr.ensures a (ap (λ b. addr_of_mux b c.args.mux) c.board-2.ensures.value ∙ there)) (c.from-limit.ensures
    ∙ c.limit.ensures.value ∙ ap block_limit c.board.ensures.value) (c.send_message-in-None.ensures.sent root)

pub send_message-requires-clause-room : goal.send_message-requires-clause-room
send_message-requires-clause-room g c κs within =
    λ tell.
    let addr : ℕ = c.chip_addr-addr.result in
    subst (λ (n : ℕ). length (g.P.Port.log c.args.port.now) + (bytes_most n (control_message addr (Some c.in-Some.byte)) + 2) ≤ MOST_CALLS)
    (sym (c.from-limit.ensures ∙ c.limit.ensures.value ∙ ap block_limit c.board.ensures.value))
    (subst (λ (o : Option ℕ). length (g.P.Port.log c.args.port.now) +
    (bytes_most (block_limit c.args.board.now) (control_message addr o) + 2) ≤ MOST_CALLS) c.in-Some.is
    (c.requires.room addr tell))

pub send_message-requires-in-None-clause-room : goal.send_message-requires-in-None-clause-room
send_message-requires-in-None-clause-room g c κs within =
    λ tell.
    let addr : ℕ = c.chip_addr-addr.result in
    subst (λ (n : ℕ). length (g.P.Port.log c.args.port.now) + (bytes_most n (control_message addr None) + 2) ≤ MOST_CALLS)
    (sym (c.from-limit.ensures ∙ c.limit.ensures.value ∙ ap block_limit c.board.ensures.value))
    (subst (λ (o : Option ℕ). length (g.P.Port.log c.args.port.now) +
    (bytes_most (block_limit c.args.board.now) (control_message addr o) + 2) ≤ MOST_CALLS) c.in-None.is
    (c.requires.room addr tell))
