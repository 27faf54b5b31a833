use Rattle.i2c_bits.specs.Wiring.{the_table}
use Rattle.i2c_bits.proofs.Shifts.{bit_up, bit_low}
use Rattle.i2c_bits.proofs.clocks.clock_bit.Goals as goal

pub returns-in-Ok-clause-bus : goal.returns-in-Ok-clause-bus
returns-in-Ok-clause-bus g c tells v =
    let bus = g.L.Lines.bus in
    let board = g.L.Lines.board in
    bit_up the_table v (board c.args.lines.now) (board c.pull.new.self) (board c.release.new.lines) c.args.high
    (bus c.args.lines.now) (bus c.pull.new.self) (bus c.release.new.lines) (bus c.pull-in-Ok.new.self)
    c.pull.ensures.board c.in-Ok.ensures.board (c.pull.ensures.bus tells) c.in-Ok.level (c.in-Ok.ensures.bus tells v)
    (c.pull-in-Ok.ensures.bus tells)

pub returns-in-Err-clause-bus : goal.returns-in-Err-clause-bus
returns-in-Err-clause-bus g c tells v =
    let bus = g.L.Lines.bus in
    let board = g.L.Lines.board in
    bit_low the_table v (board c.args.lines.now) (board c.pull.new.self) (board c.release.new.lines) c.args.high
    (bus c.args.lines.now) (bus c.pull.new.self) (bus c.release.new.lines) (bus c.pull-in-Err.new.self)
    c.pull.ensures.board c.in-Err.ensures.board (c.pull.ensures.bus tells) (c.in-Err.ensures.bus tells v)
    (c.pull-in-Err.ensures.bus tells)
