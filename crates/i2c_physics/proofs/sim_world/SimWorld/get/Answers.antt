use Rattle.i2c_physics.proofs.Cited.{◌<◌, bit_and, ap, ◌∙◌, WiredAnd, chips_say, devices_say}
use Rattle.i2c_base.specs.declared.event.Event.TheVariants as event
use Rattle.i2c_physics.proofs.WorldLemmas.{gives_told}
use Rattle.i2c_physics.proofs.sim_world.SimWorld.get.Goals as goal

pub returns-clause-given : goal.returns-clause-given
returns-clause-given c =
    let w = c.args.self.now in
    let small : (devices_say w (event.Get c.args.ack)).byte < 256 = rw c.send.ensures.devices at c.send.ensures.small in
    ap (λ (j : WiredAnd). bit_and j.byte c.send.result.1.byte) c.send.ensures.chips
    ∙ ap (λ (j : WiredAnd). bit_and (chips_say w (event.Get c.args.ack)).byte j.byte) c.send.ensures.devices
    ∙ gives_told w c.args.ack small
