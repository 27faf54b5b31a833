use Rattle.i2c_physics.proofs.Cited.{◌≡◌, length, map, ◌∙◌, ap, arith, sym, length-map, AreWorldsOf, nil_by_length}
use Rattle.i2c_physics.proofs.RigLemmas.{count_of_worlds, devices-kept}
use Rattle.i2c_physics.proofs.unplug.UnplugBuffer.keep.Goals as goal

pub returns-clause-states : goal.returns-clause-states
returns-clause-states g c of =
    let room = c.self.invariant in
    let none = nil_by_length c.self.inside.states.items (omega arith) in
    let of_board : AreWorldsOf c.self.inside.board.value (map (λ p. (g.P.Returned.port p).world) c.args.ports.items) =
    rw c.self.view_is of in
    let kept = devices-kept _ _ _ _ _ room.plain room.homes_are none of_board c.keep_states.ensures.kept
    (λ i h. c.keep_states.ensures.there i (omega arith)) in
    rw (← c.self.view_is) kept

pub returns-clause-logs : goal.returns-clause-logs
returns-clause-logs g c of =
    let kept = c.keep_states.ensures.logs in
    let same : length c.keep_states.new.ports.items ≡ length c.args.ports.items =
    sym (length-map c.keep_states.new.ports.items (λ p. (g.P.Returned.port p).log)) ∙ ap length kept
    ∙ length-map c.args.ports.items (λ p. (g.P.Returned.port p).log) in
    let count : length c.args.ports.items ≡ length c.args.self.roots = sym
    (length-map c.args.ports.items (λ p. (g.P.Returned.port p).world))
    ∙ count_of_worlds c.args.self (map (λ p. (g.P.Returned.port p).world) c.args.ports.items) of in
    let roots : length c.self.inside.board.value.roots ≡ length c.args.self.roots = ap (λ b. length b.roots) c.self.view_is in
    let none = nil_by_length c.self.inside.logs.items (omega arith) in
    let e = c.keep_logs.ensures (omega (arith, same, count, roots, c.self.invariant.for_logs, c.self.invariant.no_logs)) in
    e ∙ rw none kept
