use Rattle.i2c_bits.specs.Wiring.{the_table}
use Rattle.i2c_bits.proofs.Stops.{stop_up, stop_low}
use Rattle.i2c_bits.proofs.messages.stop_condition.Goals as goal

pub returns-in-Ok-clause-bus : goal.returns-in-Ok-clause-bus
returns-in-Ok-clause-bus g c tells =
    let bus = g.L.Lines.bus in
    let board = g.L.Lines.board in
    stop_up the_table (board c.args.lines.now) (board c.release.new.lines) (bus c.args.lines.now) (bus c.release.new.lines)
    (bus c.pull.new.self)
    c.in-Ok.ensures.board (c.pull.ensures.bus tells) c.in-Ok.field-0 (c.in-Ok.ensures.bus tells 0)

pub returns-in-Err-clause-bus : goal.returns-in-Err-clause-bus
returns-in-Err-clause-bus g c tells =
    let bus = g.L.Lines.bus in
    let board = g.L.Lines.board in
    stop_low the_table (board c.args.lines.now) (board c.release.new.lines) (bus c.args.lines.now) (bus c.release.new.lines)
    (bus c.pull-in-Err.new.self) c.in-Err.ensures.board (c.pull-in-Err.ensures.bus tells) (c.in-Err.ensures.bus tells 0)
