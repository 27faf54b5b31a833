-- The tables of an array, as they are read.
use Rattle.std.specs.Prelude.{◌≡◌, ℕ, ◌≤◌, ◌<◌, true, map, length, is_some, IsSome, List, All}
use Rattle.i2c_base.specs.Board.{DeviceView}
use Rattle.i2c_base.specs.Limits.{MOST_ROOTS, MOST_MUXES, MOST_DEVICES, limit_of}
use Rattle.toml.specs.Data.{as_table, Members}
use Rattle.toml.specs.View.{view}
use Rattle.toml.specs.declared.value.Value.{Value}
use Rattle.i2c_boardtext.specs.Items.{members_in}
use Rattle.i2c_boardtext.specs.Values.{TopView}
use Rattle.i2c_boardtext.specs.declared.top.Top.{Top}

-- each value is a table
abbrev pub IsTable : Value → Type 0
IsTable v = is_some (as_table (view v)) ≡ true

abbrev pub AreTables : List Value → Type 0
AreTables vs = All IsTable vs

abbrev pub row_of : Value → Members
row_of v = members_in (view v)

abbrev pub rows_of : List Value → List Members
rows_of vs = map row_of vs

-- the version and the arrays of a top
abbrev pub top_view : Top → TopView
top_view t = record { version = t.version; roots = rows_of t.roots.now; muxes = rows_of t.muxes.now; devices = rows_of t.devices.now }

-- the version is one of those that there are, and each array has only tables, and as many as a board may have
pub record IsWithinLimits (t : Top) : Type 0 where
  pub version : IsSome (limit_of t.version)
  pub roots : AreTables t.roots.now
  pub muxes : AreTables t.muxes.now
  pub devices : AreTables t.devices.now
  pub some_root : 1 ≤ length t.roots.now
  pub most_roots : length t.roots.now ≤ MOST_ROOTS
  pub most_muxes : length t.muxes.now ≤ MOST_MUXES
  pub most_devices : length t.devices.now ≤ MOST_DEVICES

-- a device on one of these buses
abbrev pub IsOn : ℕ → DeviceView → Type 0
IsOn buses d = d.bus < buses
