use Rattle.i2c_physics.proofs.Cited.{[], ◌∷◌, map, ap, ◌∙◌, map-append, wired}
use Rattle.i2c_physics.proofs.PlugLemmas.{open-next}
use Rattle.i2c_physics.proofs.bit_rig.open_ports.Goals as goal

pub loop-root-preserved : goal.loop-root-preserved
loop-root-preserved g c =
    open-next (wired c.in_ok-open.field-0) c.loop-root.invariant c.in_ok-open.ensures
    (ap (map wired) c.push_reserved.ensures.items ∙ map-append wired c.loop-root.ports.items (c.in_ok-open.field-0 ∷ []))
    c.push_reserved.ensures.len c.push_reserved.ensures.capacity
