use Rattle.i2c_bits.specs.Wiring.{the_table}
use Rattle.i2c_bits.proofs.Stops.{pulled_first}
use Rattle.i2c_bits.proofs.messages.stop.Goals as goal

pub returns-clause-bus : goal.returns-clause-bus
returns-clause-bus g c tells =
    let bus = g.L.Lines.bus in
    let board = g.L.Lines.board in
    pulled_first the_table (board c.args.lines.now) (board c.pull.new.self) (bus c.args.lines.now) (bus c.pull.new.self)
    (bus c.stop_condition.new.lines)
    c.stop_condition.result c.pull.ensures.board (c.pull.ensures.bus tells) (c.stop_condition.ensures.bus tells)
