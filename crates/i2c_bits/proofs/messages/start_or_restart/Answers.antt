use Rattle.std.proofs.Common.{Bool, sym, subst}
use Rattle.std.specs.Prelude.{Ok}
use Rattle.i2c_bits.specs.Wiring.{CameBegin}
use Rattle.i2c_bits.specs.Stands.{MayBegin, CalledTold}
use Rattle.i2c_bits.proofs.Starts.{called_free, called_again}
use Rattle.i2c_bits.proofs.messages.start_or_restart.Goals as goal

pub returns-then-busy-clause-told : goal.returns-then-busy-clause-told
returns-then-busy-clause-told g c tells =
    let bus = g.L.Lines.bus in
    let k = g.L.Lines.board c.args.lines.now in
    let old = bus c.args.lines.now in
    let new = bus c.repeated_start.new.lines in
    let law = c.a_repeated_start_calls_all_that_is_joined.ensures in
    subst (λ (b : Bool). MayBegin b k old → CalledTold b c.repeated_start.result old new) (sym c.if-busy.true)
    (λ may. called_again law.written law.out k old new may c.repeated_start.result (c.repeated_start.ensures.bus tells))
    (c.requires.stands tells)

pub returns-else-busy-clause-told : goal.returns-else-busy-clause-told
returns-else-busy-clause-told g c tells =
    let bus = g.L.Lines.bus in
    let k = g.L.Lines.board c.args.lines.now in
    let old = bus c.args.lines.now in
    let new = bus c.start_condition.new.lines in
    subst (λ (b : Bool). MayBegin b k old → CalledTold b (Ok tt) old new) (sym c.if-busy.false)
    (λ may. called_free c.a_start_calls_all_that_is_joined.ensures k old new may (c.start_condition.ensures.bus tells))
    (c.requires.stands tells)

pub returns-then-busy-clause-bus : goal.returns-then-busy-clause-bus
returns-then-busy-clause-bus g c tells =
    let bus = g.L.Lines.bus in
    let k = g.L.Lines.board c.args.lines.now in
    subst (λ (b : Bool). CameBegin b c.repeated_start.result k (bus c.args.lines.now) (bus c.repeated_start.new.lines)) (sym c.if-busy.true)
    (c.repeated_start.ensures.bus tells)

pub returns-else-busy-clause-bus : goal.returns-else-busy-clause-bus
returns-else-busy-clause-bus g c tells =
    let bus = g.L.Lines.bus in
    let k = g.L.Lines.board c.args.lines.now in
    subst (λ (b : Bool). CameBegin b (Ok tt) k (bus c.args.lines.now) (bus c.start_condition.new.lines)) (sym c.if-busy.false)
    (c.start_condition.ensures.bus tells)
