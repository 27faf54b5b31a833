use Rattle.i2c_physics.proofs.PlugLemmas.{open-next}
use Rattle.i2c_physics.proofs.fail_rig.open_ports.Goals as goal

pub loop-root-preserved : goal.loop-root-preserved
loop-root-preserved c =
    open-next _ c.loop-root.invariant c.in_ok-open.ensures c.push_reserved.ensures.items c.push_reserved.ensures.len
    c.push_reserved.ensures.capacity
