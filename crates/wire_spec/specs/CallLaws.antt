-- The laws of the calls on the wires of a root: what a controller's pulls and looks come to, from sites that are these chips and
-- devices, is what the world of these sites says. `busy` is whether the world is in a message; `low` and `c` are as in the laws
-- of the wires.
use Rattle.std.specs.Prelude.{◌≡◌, ℕ, ◌/◌, ◌<◌, Bool, true, false, not, List, [], ◌∷◌, ◌++◌, map, cond}
use Rattle.std.specs.List.{AllByRecursion}
use Rattle.i2c_base.specs.declared.event.Answer.{Answer}
use Rattle.i2c_base.specs.Board.{BoardView}
use Rattle.i2c_spec.specs.Chips.{ChipView, chip_table}
use Rattle.i2c_spec.specs.Targets.{TargetState, state_table, HoldsBytes}
use Rattle.i2c_spec.specs.World.{answer, takes, gives, is_ack, is_slow}
use Rattle.wire_spec.specs.declared.mode.Mode.{Mode}
use Rattle.wire_spec.specs.declared.mode.Mode.TheVariants.{Out, In, Give}
use Rattle.wire_spec.specs.Wires.{Site, LOOKS, bits, is_reading, shifted}
use Rattle.wire_spec.specs.Roots.{some_one, put_site, get_site}
use Rattle.wire_spec.specs.Bus.{Seen, Level, Started, Stopped, with_levels, came_up, gave_up}
use Rattle.wire_spec.specs.Started.{started, stays, late_bus, rose, entered_by}
use Rattle.wire_spec.specs.Calls.{byte_seen, within, within_address, free, sent_byte, read_byte, stop_pulls, slow_stop}
use Rattle.wire_spec.specs.Sites.{node_table, both, world_by, AreSites, mask_of}
use Rattle.wire_spec.specs.WorldLaws.{stopped_chips, stopped_devices}

-- a byte that is sent is acknowledged where the world takes it
abbrev pub PutOnWires : Type 0
PutOnWires = (b : BoardView) (r byte : ℕ) → byte < 256 → (busy low : Bool) (cs : List (Site ChipView)) (ds : List (Site TargetState)) (c : Seen)
    → sent_byte node_table (mask_of b r) byte (within (In false 8 0) low (both cs ds) c)
    ≡ came_up (shifted 0 (not (takes (world_by b r busy cs ds) byte)))
    (within (In false 8 0) false (both (map (put_site chip_table byte) cs) (map (put_site state_table byte) ds))
    (byte_seen byte (takes (world_by b r busy cs ds) byte) c))

-- a byte that is read is the one that the world gives
abbrev pub GetOnWires : Type 0
GetOnWires = (b : BoardView) (r : ℕ) (busy ack low : Bool) (cs : List (Site ChipView)) (ds : List (Site TargetState)) (c : Seen)
    → read_byte node_table (mask_of b r) ack (within (Give 8) low (both cs ds) c)
    ≡ came_up (gives (world_by b r busy cs ds))
    (within (cond ack (Give 8) Out) ack (both (map (get_site chip_table ack) cs) (map (get_site state_table ack) ds))
    (byte_seen (gives (world_by b r busy cs ds)) ack c))

-- what the world answers a start with this address byte
abbrev pub answer_to : BoardView → ℕ → Bool → ℕ → List (Site ChipView) → List (Site TargetState) → Answer
answer_to b r busy byte cs ds = answer (world_by b r busy cs ds) (byte / 2) (is_reading byte)

-- an address byte comes up in time where the world doesn't answer Slow, and is acknowledged where it answers Ack
abbrev pub StartOnWires : Type 0
StartOnWires = (b : BoardView) (r byte : ℕ) → byte < 256 → (busy low : Bool) (cs : List (Site ChipView)) (ds : List (Site TargetState)) (c : Seen)
    → AreSites b r cs ds → is_slow (answer_to b r busy byte cs ds) ≡ false
    → sent_byte node_table (mask_of b r) byte (within_address 8 0 low (both cs ds) c)
    ≡ came_up (shifted 0 (not (is_ack (answer_to b r busy byte cs ds))))
    (within (entered_by byte) false (both (map (started chip_table byte) cs) (map (started state_table byte) ds))
    (byte_seen byte (is_ack (answer_to b r busy byte cs ds)) c))

-- an address byte doesn't come up in time where the world answers Slow
abbrev pub SlowOnWires : Type 0
SlowOnWires = (b : BoardView) (r byte : ℕ) → byte < 256 → (busy low : Bool) (cs : List (Site ChipView)) (ds : List (Site TargetState)) (c : Seen)
    → AreSites b r cs ds → is_slow (answer_to b r busy byte cs ds) ≡ true
    → sent_byte node_table (mask_of b r) byte (within_address 8 0 low (both cs ds) c)
    ≡ gave_up (late_bus node_table byte (both cs ds) (rose (some_one (stays node_table byte LOOKS) (both cs ds)) true (with_levels (bits 8 byte) c)))

-- a stop leaves free lines, with the sites that are the world's after it
abbrev pub StopOnWires : Mode → Type 0
StopOnWires m = (b : BoardView) (r : ℕ) (low : Bool) (cs : List (Site ChipView)) (ds : List (Site TargetState)) (c : Seen)
    → stop_pulls node_table (mask_of b r) (within m low (both cs ds) c)
    ≡ (true, free (both (stopped_chips b r cs ds) (stopped_devices b r cs ds)) (Stopped ∷ Level false ∷ c))

-- the sites after a start with this address byte that was too slow, and the stop after it
abbrev pub slow_chips : BoardView → ℕ → ℕ → List (Site ChipView) → List (Site TargetState) → List (Site ChipView)
slow_chips b r byte cs ds = stopped_chips b r (map (started chip_table byte) cs) (map (started state_table byte) ds)

abbrev pub slow_devices : BoardView → ℕ → ℕ → List (Site ChipView) → List (Site TargetState) → List (Site TargetState)
slow_devices b r byte cs ds = stopped_devices b r (map (started chip_table byte) cs) (map (started state_table byte) ds)

-- a stop after a start that was too slow leaves free lines too, where what the devices hold are bytes
abbrev pub StopAfterSlowOnWires : Type 0
StopAfterSlowOnWires = (b : BoardView) (r byte : ℕ) (cs : List (Site ChipView)) (ds : List (Site TargetState)) (c : Seen)
    → AllByRecursion (λ (s : Site TargetState). HoldsBytes s.state) ds
    → slow_stop node_table (mask_of b r) (late_bus node_table byte (both cs ds) c)
    ≡ (
      true,
      free (both (slow_chips b r byte cs ds) (slow_devices b r byte cs ds))
          (Stopped ∷ cond (some_one (stays node_table byte LOOKS) (both cs ds)) (Level false ∷ c) (Started ∷ c)),
    )
