-- What contracts see of the flat world, and of the place that a transfer is sent to.
use Rattle.std.specs.Prelude.{ℕ, Bool, List, map}
use Rattle.i2c_base.specs.Board.{BoardView}
use Rattle.i2c_spec.specs.Targets.{TargetState, opening_state}

-- the board, and its devices, in file order
pub record FlatView : Type 0 where
  pub board : BoardView
  pub states : List TargetState

-- as its board says that they are opened
abbrev pub opened : BoardView → FlatView
opened b = record { board = b; states = map opening_state b.devices }

-- where a transfer is sent: the board, the bus, and whether it is forced
pub record SiteView : Type 0 where
  pub board : BoardView
  pub bus : ℕ
  pub force : Bool
