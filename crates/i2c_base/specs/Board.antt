-- A board as plain data: what contracts see of `MemoryRun`, `DeviceSpec` and `Board`.
use Rattle.std.specs.Prelude.{ℕ, Bool, List}
use Rattle.i2c_base.specs.declared.board.RootSpec.{RootSpec}
use Rattle.i2c_base.specs.declared.board.MuxSpec.{MuxSpec}
use Rattle.i2c_base.specs.declared.board.DeviceKind.{DeviceKind}

-- bytes of a device's memory from a place on
pub record RunView : Type 0 where
  pub start : ℕ
  pub bytes : List ℕ

pub record DeviceView : Type 0 where
  pub bus : ℕ
  pub addr : ℕ
  pub bound : Bool
  pub kind : DeviceKind
  pub set : List RunView

pub record BoardView : Type 0 where
  pub version : ℕ
  pub roots : List RootSpec
  pub muxes : List MuxSpec
  pub devices : List DeviceView
