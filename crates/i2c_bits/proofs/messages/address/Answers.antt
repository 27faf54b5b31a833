use Rattle.std.proofs.Common.{true, false}
use Rattle.i2c_bits.proofs.Told.{sent_low}
use Rattle.i2c_bits.proofs.Starts.{answered, cut_address}
use Rattle.i2c_bits.proofs.messages.address.Goals as goal

pub returns-in-Ok-true-clause-bus : goal.returns-in-Ok-true-clause-bus
returns-in-Ok-true-clause-bus g c tells =
    answered g.L.Lines c.args.lines.now c.clock_byte.new.lines c.clock_bit.new.lines c.in-Ok.ensures.board c.args.byte c.in-Ok.field-0
    c.in-Ok-true.field-0 true c.in-Ok-true.field-0-test (c.in-Ok.ensures.bus tells) (c.in-Ok-true.ensures.bus tells 0)

pub returns-in-Ok-false-clause-bus : goal.returns-in-Ok-false-clause-bus
returns-in-Ok-false-clause-bus g c tells =
    answered g.L.Lines c.args.lines.now c.clock_byte.new.lines c.clock_bit.new.lines c.in-Ok.ensures.board c.args.byte c.in-Ok.field-0
    c.in-Ok-false.field-0 false c.in-Ok-false.field-0-test (c.in-Ok.ensures.bus tells) (c.in-Ok-false.ensures.bus tells 0)

pub returns-in-Err-clock_bit-clause-bus : goal.returns-in-Err-clock_bit-clause-bus
returns-in-Err-clock_bit-clause-bus g c tells =
    sent_low g.L.Lines c.args.lines.now c.clock_byte.new.lines c.clock_bit.new.lines c.in-Ok.ensures.board c.args.byte c.in-Ok.field-0
    (c.in-Ok.ensures.bus tells) (c.in-Err-clock_bit.ensures.bus tells 0)

pub returns-in-Err-clause-bus : goal.returns-in-Err-clause-bus
returns-in-Err-clause-bus g c tells = cut_address g.L.Lines c.args.lines.now c.clock_byte.new.lines c.args.byte (c.in-Err.ensures.bus tells)
