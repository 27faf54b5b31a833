use Rattle.i2c_physics.proofs.ShowLemmas.{started_kept}
use Rattle.i2c_physics.proofs.wire_port.WirePortPort.start.Goals as goal

pub invariant_of-self : goal.invariant_of-self
invariant_of-self g c =
    let e = c.start.ensures in
    started_kept g.L.Lines.tells c.tell.ensures c.self.inside.port c.start.new.self c.self.invariant c.args.addr c.args.reading
    c.start.result e.faults e.answer e.world e.log e.phase e.seen
