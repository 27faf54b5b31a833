use Rattle.i2c_bits.proofs.Stops.{line_told}
use Rattle.i2c_bits.proofs.messages.set_line.Goals as goal

pub returns-clause-told : goal.returns-clause-told
returns-clause-told g c tells =
    let bus = g.L.Lines.bus in
    line_told c.chips_stand_before_devices.ensures c.a_line_on_the_sites_is_one_in_the_world.ensures (g.L.Lines.board c.args.lines.now)
    c.args.mux c.args.level (bus c.args.lines.now) (bus c.line.new.self) (c.requires.stands tells) (c.line.ensures.bus tells)
