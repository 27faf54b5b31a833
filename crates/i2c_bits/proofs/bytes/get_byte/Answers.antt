use Rattle.i2c_bits.proofs.Told.{get_told}
use Rattle.i2c_bits.proofs.bytes.get_byte.Goals as goal

pub returns-clause-told : goal.returns-clause-told
returns-clause-told g c tells =
    let bus = g.L.Lines.bus in
    get_told c.a_byte_is_one_in_the_world.ensures (g.L.Lines.board c.args.lines.now) (bus c.args.lines.now)
    (bus c.receive_byte.new.self) c.args.ack (c.requires.stands tells) c.receive_byte.result (c.receive_byte.ensures.bus tells)
