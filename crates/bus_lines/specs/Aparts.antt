-- The targets of a root once they are off its lines.
use Rattle.std.specs.Prelude.{◌≡◌, ℕ, Bool, List, length, map, Option, Some, None}
use Rattle.i2c_spec.specs.Targets.{TargetState, Silent}
use Rattle.i2c_spec.specs.World.{World}
use Rattle.wire_spec.specs.Wires.{Site, Bit}
use Rattle.wire_spec.specs.Sites.{NodeState, Chip, Device, world_of}
use Rattle.i2c_bits.specs.Wiring.{Rooted}
use Rattle.bus_lines.specs.Joins.{PlaceView, places_of, is_chip, kinds_of, states_on}

-- the board and the root, and what the world sees of the targets, by number, mux chips first
pub record ApartView : Type 0 where
  pub rooted : Rooted
  pub sites : List (Site NodeState)

abbrev pub apart_of : Rooted → List (Bit NodeState) → ApartView
apart_of k bs = record { rooted = k; sites = map {A = Bit NodeState} (λ (b : Bit NodeState). b.site) bs }

-- the world that they are, in a message or not
abbrev pub world_apart : Bool → ApartView → World
world_apart busy a = world_of a.rooted.board a.rooted.root busy a.sites

-- the device that it is, and what is left of it where that is taken out
abbrev pub device_of : NodeState → Option TargetState
device_of (Chip x) = None
device_of (Device x) = Some x

abbrev pub emptied : NodeState → NodeState
emptied (Chip x) = Chip x
emptied (Device x) = Device Silent

-- the chips of all muxes of the board, which are so many, and then its devices, with the places of each
pub record AreApart (k : Rooted) (muxes : ℕ) (ps : List PlaceView) (bs : List (Bit NodeState)) : Type 0 where
  pub count : muxes ≡ length k.board.muxes
  pub places : ps ≡ places_of k.board k.root
  pub kinds : map is_chip (states_on bs) ≡ kinds_of k.board
