-- What the type of a board keeps: the limits of a board file, and that its parts fit each other.
use Rattle.std.specs.Prelude.{⊤, ◌≡◌, ℕ, ◌+◌, ◌<◌, ◌≤◌, Bool, true, false, List, [], ◌∷◌, length, reverse, Option, Some, None, IsSome, IfSome, unwrap_or, All}
use Rattle.i2c_base.specs.declared.board.MuxKind.{MuxKind}
use Rattle.i2c_base.specs.declared.board.MuxSpec.{MuxSpec}
use Rattle.i2c_base.specs.Board.{BoardView, DeviceView, RunView}
use Rattle.i2c_base.specs.Bytes.{AreBytes}
use Rattle.i2c_base.specs.Addr.{IsTargetAddress}
use Rattle.i2c_base.specs.Limits.{MOST_ROOTS, MOST_MUXES, MOST_DEVICES, limit_of}
use Rattle.i2c_base.specs.Muxes.{facts_of}
use Rattle.i2c_spec.specs.Numbers.{IsFor, channels_key, foreign_key}
use Rattle.i2c_spec.specs.Targets.{FitsKind, row_of_kind}
use Rattle.i2c_spec.specs.Tree.{buses, buses_of}

-- the kind fixes the number of channels, or the board says it
abbrev pub IsCount : Option ℕ → ℕ → Type 0
IsCount (Some c) n = n ≡ c
IsCount None n = IsFor channels_key n

abbrev pub FitsChannels : MuxKind → ℕ → Type 0
FitsChannels k n = IsCount (facts_of k).channels n

-- a mux that is switched by a line has no chip, so no address, and none that could be absent
abbrev pub IsChip : (by_line : Bool) → Option ℕ → Bool → Type 0
IsChip true addr absent = (addr ≡ None) × (absent ≡ false)
IsChip false addr absent = IsSome addr

abbrev pub FitsChip : MuxKind → Option ℕ → Bool → Type 0
FitsChip k addr absent = IsChip (facts_of k).by_line addr absent

-- only an arbitrator has another controller
abbrev pub IsForeign : (asks : Bool) → ℕ → Type 0
IsForeign true n = IsFor foreign_key n
IsForeign false n = n ≡ 0

abbrev pub FitsForeign : MuxKind → ℕ → Type 0
FitsForeign k n = IsForeign (facts_of k).asks n

pub record IsPlainMux (m : MuxSpec) : Type 0 where
  pub channels : FitsChannels m.kind m.channels
  pub chip : FitsChip m.kind m.addr m.absent
  pub address : IfSome m.addr IsTargetAddress
  pub foreign : FitsForeign m.kind m.foreign

-- a run has bytes, at least one, starts within the memory and doesn't pass its end; so a kind without memory has none
pub record IsPlainRun (size : ℕ) (r : RunView) : Type 0 where
  pub some : 0 < length r.bytes
  pub within : r.start + length r.bytes ≤ size
  pub bytes : AreBytes r.bytes

pub record IsPlainDevice (d : DeviceView) : Type 0 where
  pub address : IsTargetAddress d.addr
  pub kind : FitsKind d.kind
  pub runs : All (IsPlainRun (unwrap_or (row_of_kind d.kind).memory 0)) d.set

-- each mux stands on a bus that comes before its own channels. The muxes are given from the last one back
abbrev pub IsPlanted : ℕ → List MuxSpec → Type 0
IsPlanted roots [] = ⊤
IsPlanted roots (m ∷ before) = (m.bus < buses_of roots before) × IsPlanted roots before

pub record IsPlainBoard (b : BoardView) : Type 0 where
  pub version : IsSome (limit_of b.version)
  pub some_root : 1 ≤ length b.roots
  pub most_roots : length b.roots ≤ MOST_ROOTS
  pub most_muxes : length b.muxes ≤ MOST_MUXES
  pub most_devices : length b.devices ≤ MOST_DEVICES
  pub muxes : All IsPlainMux b.muxes
  pub devices : All IsPlainDevice b.devices
  pub planted : IsPlanted (length b.roots) (reverse b.muxes)
  pub placed : All (λ d. d.bus < buses b) b.devices
