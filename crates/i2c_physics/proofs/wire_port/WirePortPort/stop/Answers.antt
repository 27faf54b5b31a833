use Rattle.i2c_physics.proofs.ShowLemmas.{stop_kept}
use Rattle.i2c_physics.proofs.wire_port.WirePortPort.stop.Goals as goal

pub invariant_of-self : goal.invariant_of-self
invariant_of-self g c =
    let e = c.stop.ensures in
    stop_kept g.L.Lines.tells c.tell.ensures c.self.inside.port c.stop.new.self c.self.invariant c.stop.result e.faults e.world e.log e.phase
    e.seen
