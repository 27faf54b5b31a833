use Rattle.i2c_bits.proofs.Told.{put_told}
use Rattle.i2c_bits.proofs.bytes.put_byte.Goals as goal

pub returns-clause-told : goal.returns-clause-told
returns-clause-told g c tells =
    let bus = g.L.Lines.bus in
    put_told c.a_byte_is_one_in_the_world.ensures (g.L.Lines.board c.args.lines.now) (bus c.args.lines.now)
    (bus c.send_byte.new.self) c.args.byte c.ranges.byte.fits (c.requires.stands tells) c.send_byte.result (c.send_byte.ensures.bus tells)
