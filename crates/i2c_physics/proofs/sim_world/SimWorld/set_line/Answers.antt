use Rattle.i2c_physics.proofs.Cited.{length, ap, ◌∙◌}
use Rattle.i2c_physics.proofs.LineLemmas.{level-kept, level-count}
use Rattle.i2c_physics.proofs.sim_world.SimWorld.set_line.Goals as goal

pub invariant_of-self : goal.invariant_of-self
invariant_of-self c =
    let inv = c.self.invariant in
    let new = c.set_level.ensures in
    record {
      plain = inv.plain;
      mux_places = inv.mux_places;
      device_places = inv.device_places;
      chips_are = ap length new ∙ level-count _ _ _ ∙ inv.chips_are;
      devices_are = inv.devices_are;
      chips_reached = rw new (level-kept _ _ _ _ _ inv.chips_reached);
      devices_reached = inv.devices_reached;
      reached_own = inv.reached_own;
    }
