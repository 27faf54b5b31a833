-- Who is joined to the wires, by the board's tree and the states of all targets, which stand by number, mux chips first.
use Rattle.std.specs.Prelude.{ℕ, ◌==◌, Bool, true, false, not, ◌&&◌, List, [], ◌++◌, cond, map, length, replicate, is_some, slice_get}
use Rattle.std.specs.List.{list_all}
use Rattle.std.specs.Option.{option_map_or}
use Rattle.i2c_base.specs.declared.board.MuxSpec.{MuxSpec}
use Rattle.i2c_base.specs.Board.{BoardView, DeviceView}
use Rattle.i2c_spec.specs.Tree.{Hop, hops, root_of}
use Rattle.i2c_spec.specs.Chips.{is_open}
use Rattle.wire_spec.specs.Wires.{Bit}
use Rattle.wire_spec.specs.Sites.{NodeState, Chip, Device}
use Rattle.i2c_bits.specs.Wiring.{node_level}

-- where a target stands
pub record PlaceView : Type 0 where
  -- it is there, on a bus of the root
  pub wired : Bool
  -- the muxes over its bus, nearest first
  pub above : List Hop

-- nothing is kept of the muxes over a target that isn't there
abbrev pub placed : Bool → List Hop → PlaceView
placed wired above = record { wired = wired; above = cond wired above [] }

abbrev pub place_on : BoardView → ℕ → ℕ → Bool → PlaceView
place_on b root bus there = placed (there && (root_of b bus == root)) (hops b bus)

-- a mux has a chip on the wires where it is there and has an address
abbrev pub mux_place : BoardView → ℕ → MuxSpec → PlaceView
mux_place b root m = place_on b root m.bus (not m.absent && is_some m.addr)

abbrev pub device_place : BoardView → ℕ → DeviceView → PlaceView
device_place b root d = place_on b root d.bus true

-- the places of all targets of a board, as one of its roots has them
abbrev pub places_of : BoardView → ℕ → List PlaceView
places_of b root = map (mux_place b root) b.muxes ++ map (device_place b root) b.devices

-- it is the chip of a mux
abbrev pub is_chip : NodeState → Bool
is_chip (Chip x) = true
is_chip (Device x) = false

-- the chips of all muxes, and then the devices
abbrev pub kinds_of : BoardView → List Bool
kinds_of b = replicate (length b.muxes) true ++ replicate (length b.devices) false

-- the states of targets
abbrev pub states_on : List (Bit NodeState) → List NodeState
states_on bs = map {A = Bit NodeState} (λ (b : Bit NodeState). b.site.state) bs

-- it is the chip of a mux that has this channel open
abbrev pub node_opens : ℕ → NodeState → Bool
node_opens channel (Chip x) = is_open x channel
node_opens channel (Device x) = false

-- the mux of this hop has the hop's channel open
abbrev pub opens_at : List NodeState → Hop → Bool
opens_at nodes h = option_map_or (node_opens h.channel) (slice_get nodes h.mux) false

-- it is joined to the wires where every mux over its bus has the channel open that leads there
abbrev pub joins : List NodeState → PlaceView → Bool
joins nodes p = p.wired && list_all (opens_at nodes) p.above

-- the target of this number is joined
abbrev pub joins_by : List PlaceView → List NodeState → ℕ → Bool
joins_by places nodes k = option_map_or (joins nodes) (slice_get places k) false

-- a target of which it is read anew whether it is joined, after a stop, when nobody is in a message
abbrev pub read_anew : Bool → Bit NodeState → Bit NodeState
read_anew joined b = record b { site = record b.site { joined = joined; heard = false } }

-- a target that is a mux, of which the line is set
abbrev pub at_node_level : ℕ → Bit NodeState → Bit NodeState
at_node_level level b = record b { site = record b.site { state = node_level b.site.state level } }
