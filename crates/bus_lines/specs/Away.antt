-- The devices of other roots: they are never on the wires of this one, and stay as they were opened, so that nothing is kept of them,
-- not even their addresses: a start finds none of them.
use Rattle.std.specs.Prelude.{ℕ, ◌-◌, ◌==◌, Bool, false, List, ◌++◌, length, map, cond, slice_get}
use Rattle.std.specs.Option.{option_map_or}
use Rattle.i2c_base.specs.Board.{BoardView, DeviceView}
use Rattle.i2c_spec.specs.Targets.{Silent, opening_state}
use Rattle.i2c_spec.specs.Tree.{root_of}
use Rattle.wire_spec.specs.declared.mode.Mode.TheVariants.{Out}
use Rattle.wire_spec.specs.Wires.{Bit, site_of}
use Rattle.wire_spec.specs.Roots.{at}
use Rattle.wire_spec.specs.Sites.{NodeState, Chip, Device, NO_ADDRESS, site_with}
use Rattle.bus_lines.specs.Joins.{PlaceView}
use Rattle.bus_lines.specs.Opens.{chip_bit}
use Rattle.bus_lines.specs.Units.{by_number}

-- the target of this number is there, on a bus of the root
abbrev pub is_wired : List PlaceView → ℕ → Bool
is_wired ps k = option_map_or (λ (p : PlaceView). p.wired) (slice_get ps k) false

-- the device of this number as its board says that it is opened
abbrev pub opened_at : BoardView → ℕ → NodeState → NodeState
opened_at b k (Chip x) = Chip x
opened_at b k (Device x) =
    option_map_or (λ (d : DeviceView). Device (opening_state d)) (slice_get b.devices (k - length b.muxes)) (Device x)

-- and the address that its board gives it
abbrev pub addr_at : BoardView → ℕ → NodeState → ℕ → ℕ
addr_at b k (Chip x) addr = addr
addr_at b k (Device x) addr = option_map_or (λ (d : DeviceView). d.addr) (slice_get b.devices (k - length b.muxes)) addr

-- a target that isn't there, as its board says that it is opened
abbrev pub rested : BoardView → ℕ → Bit NodeState → Bit NodeState
rested b k c = record c { site = record c.site { addr = addr_at b k c.site.state c.site.addr; state = opened_at b k c.site.state } }

-- a target as it is seen: one that isn't there is as it was opened
abbrev pub whole_at : BoardView → List PlaceView → ℕ → Bit NodeState → Bit NodeState
whole_at b ps k c = cond (is_wired ps k) c (rested b k c)

-- all of them
abbrev pub whole_on : BoardView → List PlaceView → List (Bit NodeState) → List (Bit NodeState)
whole_on b ps bs = by_number (whole_at b ps) 0 bs

-- a device at the opening, of which nothing is kept where it isn't of this root
abbrev pub device_at : Bool → DeviceView → Bit NodeState
device_at here d = at Out (site_with Device (site_of (cond here d.addr NO_ADDRESS) false false (cond here (opening_state d) Silent)))

abbrev pub kept_device : BoardView → ℕ → DeviceView → Bit NodeState
kept_device b root d = device_at (root_of b d.bus == root) d

-- what is kept of all targets at the opening
abbrev pub kept_bits : BoardView → ℕ → List (Bit NodeState)
kept_bits b root = map chip_bit b.muxes ++ map (kept_device b root) b.devices
