-- The targets of a root on its wires, mux chips and devices, as one type with one table and in one list, chips first; and the
-- world of bytes that they are.
use Rattle.std.specs.Prelude.{◌<◌, ◌≡◌, ℕ, ◌+◌, ◌-◌, ◌==◌, nat_lt, length, Bool, false, ⊤, List, [], ◌∷◌, ◌++◌, map, if◌then◌else◌, unwrap_or}
use Rattle.i2c_base.specs.declared.ids.Node.{Node}
use Rattle.i2c_base.specs.declared.ids.Node.TheVariants as node
use Rattle.i2c_base.specs.declared.event.Event.{Event}
use Rattle.i2c_base.specs.declared.event.Answer.{Answer}
use Rattle.i2c_base.specs.declared.board.MuxSpec.{MuxSpec}
use Rattle.i2c_base.specs.Board.{BoardView, DeviceView}
use Rattle.i2c_base.specs.Table.{Table}
use Rattle.i2c_spec.specs.Chips.{ChipView, chip_after, chip_answer, chip_sends, chip_opening}
use Rattle.i2c_spec.specs.Targets.{TargetState, state_after, state_answer, state_sends, state_hold, opening_state}
use Rattle.i2c_spec.specs.Grant.{has_address}
use Rattle.i2c_spec.specs.Tree.{addr_of_mux, of_device}
use Rattle.i2c_spec.specs.World.{World, joins_chip, joins_device}
use Rattle.wire_spec.specs.Wires.{Site, site_of}
use Rattle.wire_spec.specs.Roots.{hearing}
use Rattle.wire_spec.specs.Bus.{Mask}
use Rattle.wire_spec.specs.Calls.{joined_from}

-- the state of a mux chip or of a device
pub data NodeState : Type 0 where
  Chip : (x : ChipView) → NodeState
  Device : (x : TargetState) → NodeState

-- the one table of both, field by field
abbrev pub node_after : NodeState → Event → NodeState
node_after (Chip x) e = Chip (chip_after x e)
node_after (Device x) e = Device (state_after x e)

abbrev pub node_answer : NodeState → Event → Answer
node_answer (Chip x) e = chip_answer x e
node_answer (Device x) e = state_answer x e

abbrev pub node_sends : NodeState → ℕ
node_sends (Chip x) = chip_sends x.kind x
node_sends (Device x) = state_sends x

abbrev pub node_hold : NodeState → ℕ
node_hold (Chip x) = 0
node_hold (Device x) = state_hold x

-- chips and devices are targets of one table
abbrev pub node_table : Table NodeState
node_table = record { after = node_after; answer = node_answer; sends = node_sends; hold = node_hold }

-- a site whose state is another's
abbrev pub site_with : {X Y : Type 0} → (X → Y) → Site X → Site Y
site_with f s = site_of s.addr s.joined s.heard (f s.state)

-- the chips and the devices as one list
abbrev pub both : List (Site ChipView) → List (Site TargetState) → List (Site NodeState)
both cs ds = map (site_with Chip) cs ++ map (site_with Device) ds

-- a site is a chip, or a device, by its state
abbrev pub chip_by : Site NodeState → NodeState → List (Site ChipView) → List (Site ChipView)
chip_by s (Chip x) rest = site_of s.addr s.joined s.heard x ∷ rest
chip_by s (Device x) rest = rest

abbrev pub device_by : Site NodeState → NodeState → List (Site TargetState) → List (Site TargetState)
device_by s (Chip x) rest = rest
device_by s (Device x) rest = site_of s.addr s.joined s.heard x ∷ rest

-- the chips of all, and the devices
abbrev pub chips_in : List (Site NodeState) → List (Site ChipView)
chips_in [] = []
chips_in (s ∷ ss) = chip_by s s.state (chips_in ss)

abbrev pub devices_in : List (Site NodeState) → List (Site TargetState)
devices_in [] = []
devices_in (s ∷ ss) = device_by s s.state (devices_in ss)

-- who is in the message, by name, from number k on
abbrev pub names_of : {X : Type 0} → (ℕ → Node) → ℕ → List (Site X) → List Node
names_of name k [] = []
names_of name k (s ∷ ss) = if hearing s then name k ∷ names_of name (k + 1) ss else names_of name (k + 1) ss

-- the states of sites, by number
abbrev pub states_of : {X : Type 0} → List (Site X) → List X
states_of {X} ss = map (λ (s : Site X). s.state) ss

-- the world that these chips and devices are: their states, and who is in the message
abbrev pub world_by : BoardView → ℕ → Bool → List (Site ChipView) → List (Site TargetState) → World
world_by b r busy cs ds =
    record {
      board = b;
      root = r;
      chips = states_of cs;
      devices = states_of ds;
      hearing = names_of node.Chip 0 cs ++ names_of node.Device 0 ds;
      busy = busy;
    }

-- the world that a list of both is
abbrev pub world_of : BoardView → ℕ → Bool → List (Site NodeState) → World
world_of b r busy ss = world_by b r busy (chips_in ss) (devices_in ss)

-- by number, from k on: what the world says of each is what its site says
abbrev pub Tells : {X A : Type 0} → (ℕ → A) → (Site X → A) → ℕ → List (Site X) → Type 0
Tells f g k [] = ⊤
Tells f g k (s ∷ ss) = (f k ≡ g s) × Tells f g (k + 1) ss

-- a mux without a chip has a site too, at an address that no address byte names: it has more than seven bits
abbrev pub NO_ADDRESS : ℕ
NO_ADDRESS = 128

-- the addresses of the sites are the board's, by number
pub record HaveAddresses (b : BoardView) (cs : List (Site ChipView)) (ds : List (Site TargetState)) : Type 0 where
  pub chips_at : (a : ℕ) → a < NO_ADDRESS → Tells (λ m. has_address a (addr_of_mux b m)) (λ s. a == s.addr) 0 cs
  pub devices_at : (a : ℕ) → a < NO_ADDRESS → Tells (λ d. of_device (λ x. x.addr == a) false b d) (λ s. a == s.addr) 0 ds

-- and they tell who is joined as the world does: then what a call is to the sites is what it is to the world
pub record AreSites (b : BoardView) (r : ℕ) (cs : List (Site ChipView)) (ds : List (Site TargetState)) : Type 0 where
  pub addresses : HaveAddresses b cs ds
  pub chips_joined : Tells (joins_chip (world_by b r false cs ds)) (λ s. s.joined) 0 cs
  pub devices_joined : Tells (joins_device (world_by b r false cs ds)) (λ s. s.joined) 0 ds

-- the same sites, with who is joined read anew from their states, and nobody in a message
abbrev pub chips_anew : BoardView → ℕ → List (Site ChipView) → List (Site TargetState) → List (Site ChipView)
chips_anew b r cs ds = joined_from (joins_chip (world_by b r false cs ds)) 0 cs

abbrev pub devices_anew : BoardView → ℕ → List (Site ChipView) → List (Site TargetState) → List (Site TargetState)
devices_anew b r cs ds = joined_from (joins_device (world_by b r false cs ds)) 0 ds

-- the site of a mux, and of a device, at the opening
abbrev pub chip_site : MuxSpec → Site ChipView
chip_site m = site_of (unwrap_or m.addr NO_ADDRESS) false false (chip_opening m)

abbrev pub device_site : DeviceView → Site TargetState
device_site d = site_of d.addr false false (opening_state d)

-- the sites of a board as it is opened, for one of its roots
abbrev pub opened_chips : BoardView → ℕ → List (Site ChipView)
opened_chips b r = chips_anew b r (map chip_site b.muxes) (map device_site b.devices)

abbrev pub opened_devices : BoardView → ℕ → List (Site TargetState)
opened_devices b r = devices_anew b r (map chip_site b.muxes) (map device_site b.devices)

-- who is joined, by number, chips first, as the states of all of them tell
abbrev pub mask_of : BoardView → ℕ → Mask NodeState
mask_of b r ss k =
    if nat_lt k (length (chips_in ss)) then joins_chip (world_of b r false ss) k
    else joins_device (world_of b r false ss) (k - length (chips_in ss))
