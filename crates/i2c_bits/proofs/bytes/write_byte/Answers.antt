use Rattle.i2c_bits.proofs.Told.{sent_up, sent_low, sent_cut}
use Rattle.i2c_bits.proofs.bytes.write_byte.Goals as goal

pub returns-in-Ok-clock_bit-clause-bus : goal.returns-in-Ok-clock_bit-clause-bus
returns-in-Ok-clock_bit-clause-bus g c tells =
    sent_up g.L.Lines c.args.lines.now c.clock_byte.new.lines c.clock_bit.new.lines c.in-Ok.ensures.board c.args.byte c.in-Ok.field-0
    c.in-Ok-clock_bit.level (c.in-Ok.ensures.bus tells) (c.in-Ok-clock_bit.ensures.bus tells 0)

pub returns-in-Err-clock_bit-clause-bus : goal.returns-in-Err-clock_bit-clause-bus
returns-in-Err-clock_bit-clause-bus g c tells =
    sent_low g.L.Lines c.args.lines.now c.clock_byte.new.lines c.clock_bit.new.lines c.in-Ok.ensures.board c.args.byte c.in-Ok.field-0
    (c.in-Ok.ensures.bus tells) (c.in-Err-clock_bit.ensures.bus tells 0)

pub returns-in-Err-clause-bus : goal.returns-in-Err-clause-bus
returns-in-Err-clause-bus g c tells = sent_cut g.L.Lines c.args.lines.now c.clock_byte.new.lines c.args.byte (c.in-Err.ensures.bus tells)
