use Rattle.i2c_bits.proofs.Starts.{start_told, told_before, on_board}
use Rattle.i2c_bits.proofs.messages.start_message.Goals as goal

pub returns-in-Ok-clause-told : goal.returns-in-Ok-clause-told
returns-in-Ok-clause-told g c tells =
    let bus = g.L.Lines.bus in
    let k = g.L.Lines.board c.args.lines.now in
    let law = c.a_start_on_the_wires_is_one_in_the_world.ensures in
    start_told c.chips_stand_before_devices.ensures c.devices_hold_bytes.ensures.kept law.in_time law.slow
    c.a_start_on_the_sites_is_one_in_the_world.ensures c.a_message_that_nobody_hears_is_out.ensures k c.args.busy c.args.byte
    c.ranges.byte.fits (bus c.args.lines.now) (bus c.start.new.self) (bus c.address_byte.new.self)
    (told_before c.args.busy k (bus c.args.lines.now) (c.requires.stands tells)) (c.in-Ok.ensures.told tells) c.address_byte.result
    (on_board c.address_byte.result (bus c.start.new.self) (bus c.address_byte.new.self) c.args.byte k
    (g.L.Lines.board c.start.new.self) c.in-Ok.ensures.board (c.address_byte.ensures.bus tells))
