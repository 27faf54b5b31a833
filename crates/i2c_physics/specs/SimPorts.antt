-- What contracts see of the port of a root.
use Rattle.std.specs.Prelude.{ℕ, List, [], ◌∷◌, ◌++◌}
use Rattle.i2c_base.specs.declared.port.Phase.{Phase}
use Rattle.i2c_base.specs.declared.port.Phase.TheVariants.{Idle}
use Rattle.i2c_base.specs.declared.port.PortCall.{PortCall}
use Rattle.i2c_base.specs.Board.{BoardView}
use Rattle.i2c_spec.specs.World.{World, opening_world, after}

pub record PortView : Type 0 where
  pub world : World
  pub log : List PortCall
  pub phase : Phase

-- a port as it is opened
abbrev pub opening_port : BoardView → ℕ → PortView
opening_port b root = record { world = opening_world b root; log = []; phase = Idle }

-- a port after a call that its log keeps, and that leaves it in this phase
abbrev pub called : PortView → PortCall → Phase → PortView
called p c phase = record { world = after p.world c; log = p.log ++ c ∷ []; phase = phase }
