use Rattle.i2c_bits.proofs.Told.{read_up, read_low, read_cut}
use Rattle.i2c_bits.proofs.bytes.read_byte.Goals as goal

pub returns-in-Ok-clock_bit-clause-bus : goal.returns-in-Ok-clock_bit-clause-bus
returns-in-Ok-clock_bit-clause-bus g c tells =
    read_up g.L.Lines c.args.lines.now c.clock_byte.new.lines c.clock_bit.new.lines c.in-Ok.ensures.board c.in-Ok.byte c.args.ack
    c.in-Ok-clock_bit.field-0 (c.in-Ok.ensures.bus tells) (c.in-Ok-clock_bit.ensures.bus tells 0)

pub returns-in-Err-clock_bit-clause-bus : goal.returns-in-Err-clock_bit-clause-bus
returns-in-Err-clock_bit-clause-bus g c tells =
    read_low g.L.Lines c.args.lines.now c.clock_byte.new.lines c.clock_bit.new.lines c.in-Ok.ensures.board c.in-Err-clock_bit.low c.in-Ok.byte
    c.args.ack (c.in-Ok.ensures.bus tells) (c.in-Err-clock_bit.ensures.bus tells 0)

pub returns-in-Err-clause-bus : goal.returns-in-Err-clause-bus
returns-in-Err-clause-bus g c tells = read_cut g.L.Lines c.args.lines.now c.clock_byte.new.lines c.args.ack c.in-Err.low (c.in-Err.ensures.bus tells)
