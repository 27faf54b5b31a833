-- Where the targets of a board stand, as the port of one root has them: what of it never changes is found once, at
-- the opening.
use Rattle.std.specs.Prelude.{ℕ, ◌==◌, Bool, true, not, ◌&&◌, List, Option, Some, None, is_some, if◌then◌else◌}
use Rattle.std.specs.List.{list_all}
use Rattle.i2c_base.specs.declared.board.MuxSpec.{MuxSpec}
use Rattle.i2c_base.specs.declared.event.Event.{Event}
use Rattle.i2c_base.specs.Board.{BoardView, DeviceView}
use Rattle.i2c_spec.specs.Tree.{Hop, hops, root_of}
use Rattle.i2c_spec.specs.Chips.{ChipView}
use Rattle.i2c_spec.specs.World.{opens_hop}

pub record PlaceView : Type 0 where
  pub addr : Option ℕ
  -- it is there, on a bus of the port's root
  pub wired : Bool
  -- the muxes over its bus, nearest first
  pub above : List Hop

abbrev pub place_on : BoardView → ℕ → ℕ → Option ℕ → Bool → PlaceView
place_on b root bus addr there = record { addr = addr; wired = there && (root_of b bus == root); above = hops b bus }

-- a mux has a chip on the wires where it is there and has an address
abbrev pub mux_place : BoardView → ℕ → MuxSpec → PlaceView
mux_place b root m = place_on b root m.bus m.addr (not m.absent && is_some m.addr)

abbrev pub device_place : BoardView → ℕ → DeviceView → PlaceView
device_place b root d = place_on b root d.bus (Some d.addr) true

-- it is joined to the wires where every mux over its bus has the channel open that leads there
abbrev pub joins : List ChipView → PlaceView → Bool
joins chips p = p.wired && list_all (opens_hop chips) p.above

-- an event, where the condition holds
abbrev pub event_if : Bool → Event → Option Event
event_if condition e = if condition then Some e else None
