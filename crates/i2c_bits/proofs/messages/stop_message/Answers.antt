use Rattle.std.proofs.Common.{Bool, sym, subst}
use Rattle.i2c_bits.specs.Stands.{MayEnd, StopTold}
use Rattle.i2c_bits.proofs.Stops.{stop_told, slow_told}
use Rattle.i2c_bits.proofs.messages.stop_message.Goals as goal

pub returns-then-late-clause-told : goal.returns-then-late-clause-told
returns-then-late-clause-told g c tells =
    let bus = g.L.Lines.bus in
    let k = g.L.Lines.board c.args.lines.now in
    let old = bus c.args.lines.now in
    let new = bus c.stop_condition.new.lines in
    subst (λ (b : Bool). MayEnd b k old → StopTold k b c.stop_condition.result old new) (sym c.if-late.true)
    (λ may. slow_told c.chips_stand_before_devices.ensures c.devices_hold_bytes.ensures.kept
    c.a_stop_on_the_sites_is_one_in_the_world.ensures k old new c.a_stop_after_a_slow_start_is_one_in_the_world.ensures
    c.a_start_on_the_sites_is_one_in_the_world.ensures may c.stop_condition.result (c.stop_condition.ensures.bus tells))
    (c.requires.stands tells)

pub returns-else-late-clause-told : goal.returns-else-late-clause-told
returns-else-late-clause-told g c tells =
    let bus = g.L.Lines.bus in
    let k = g.L.Lines.board c.args.lines.now in
    let old = bus c.args.lines.now in
    let new = bus c.stop.new.self in
    let law = c.a_stop_on_the_wires_is_one_in_the_world.ensures in
    subst (λ (b : Bool). MayEnd b k old → StopTold k b c.stop.result old new) (sym c.if-late.false)
    (λ may. stop_told c.chips_stand_before_devices.ensures c.devices_hold_bytes.ensures.kept
    c.a_stop_on_the_sites_is_one_in_the_world.ensures k old new law.written law.out may c.stop.result (c.stop.ensures.bus tells))
    (c.requires.stands tells)
