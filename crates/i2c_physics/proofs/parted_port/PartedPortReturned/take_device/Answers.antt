use Rattle.i2c_physics.proofs.Cited.{ap, ◌∙◌, without, PortView}
use Rattle.i2c_physics.proofs.parted_port.PartedPortReturned.take_device.Goals as goal

pub returns-clause-world : goal.returns-clause-world
returns-clause-world c = c.take_device.ensures.after c.self.inside.busy
    ∙ ap (λ (p : PortView). without p.world c.args.number) c.self.view_is
