use Rattle.i2c_bits.specs.Wiring.{the_table}
use Rattle.i2c_bits.proofs.Starts.{again_up, again_low}
use Rattle.i2c_bits.proofs.messages.repeated_start.Goals as goal

pub returns-in-Ok-clause-bus : goal.returns-in-Ok-clause-bus
returns-in-Ok-clause-bus g c tells =
    let bus = g.L.Lines.bus in
    let board = g.L.Lines.board in
    again_up the_table (board c.args.lines.now) (board c.release_scl.new.lines) (bus c.args.lines.now) (bus c.release_scl.new.lines)
    (bus c.start_condition.new.lines)
    c.in-Ok.field-0 c.in-Ok.ensures.board (c.in-Ok.ensures.bus tells) (c.start_condition.ensures.bus tells)

pub returns-in-Err-clause-bus : goal.returns-in-Err-clause-bus
returns-in-Err-clause-bus g c tells =
    let bus = g.L.Lines.bus in
    again_low the_table (g.L.Lines.board c.args.lines.now) (bus c.args.lines.now) (bus c.release_scl.new.lines) (c.in-Err.ensures.bus tells)
