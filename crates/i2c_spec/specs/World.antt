-- The world of a root: the states of its mux chips and devices, and what the wires have come to. What is joined is
-- always taken from the state before the call. (UM10204 section 3.1: all targets see each start; a line is low
-- where anyone pulls it low, so a byte that several send is their bitwise AND.)
use Rattle.std.specs.Prelude.{◌≡◌, ℕ, ◌+◌, ◌==◌, Bool, true, false, not, ◌&&◌, ◌||◌, List, [], ◌∷◌, ◌++◌, length, map, Option, Some, None, is_some, unwrap_or, slice_get, slice_set, if◌then◌else◌, bit_and, All}
use Rattle.std.specs.List.{list_any, list_all, range_with_len}
use Rattle.std.specs.Option.{option_map_or}
use Rattle.i2c_base.specs.declared.ids.Node.{Node}
use Rattle.i2c_base.specs.declared.ids.Node.TheVariants as node
use Rattle.i2c_base.specs.declared.event.Event.{Event}
use Rattle.i2c_base.specs.declared.event.Event.TheVariants as event
use Rattle.i2c_base.specs.declared.event.Answer.{Answer}
use Rattle.i2c_base.specs.declared.event.Answer.TheVariants.{Ack, Nack, Slow, Byte, Nothing}
use Rattle.i2c_base.specs.declared.port.PortCall.{PortCall}
use Rattle.i2c_base.specs.declared.port.PortCall.TheVariants as call
use Rattle.i2c_base.specs.Board.{BoardView}
use Rattle.i2c_base.specs.Table.{Table, byte_of}
use Rattle.i2c_spec.specs.Tree.{Hop, hops, root_of, of_device, is_absent, home_of_mux, addr_of_mux}
use Rattle.i2c_spec.specs.Grant.{has_address}
use Rattle.i2c_spec.specs.Chips.{ChipView, chip_table, chip_opening, is_open, at_level}
use Rattle.i2c_spec.specs.Targets.{TargetState, Silent, state_table, opening_state}

pub record World : Type 0 where
  -- never changes; only this root's part of it is looked at
  pub board : BoardView
  pub root : ℕ
  -- by mux number; an absent one, and one of another root, as opened
  pub chips : List ChipView
  -- by device number; one of another root as opened
  pub devices : List TargetState
  -- who answered Ack or Slow to the last start: chips, then devices, by number; nobody after a stop or a fault
  pub hearing : List Node
  -- a message is in progress
  pub busy : Bool

-- a bus of the root is joined where every mux over its path has the path's channel open
abbrev pub opens_hop : List ChipView → Hop → Bool
opens_hop chips h = option_map_or (λ c. is_open c h.channel) (slice_get chips h.mux) false

abbrev pub is_joined : World → ℕ → Bool
is_joined w s = (root_of w.board s == w.root) && list_all (opens_hop w.chips) (hops w.board s)

-- a mux has a chip on the wires where it is there and has an address
abbrev pub has_chip : BoardView → ℕ → Bool
has_chip b m = not (is_absent b m) && is_some (addr_of_mux b m)

abbrev pub joins_chip : World → ℕ → Bool
joins_chip w m = has_chip w.board m && is_joined w (home_of_mux w.board m)

abbrev pub joins_device : World → ℕ → Bool
joins_device w d = is_joined w (of_device (λ x. x.bus) 0 w.board d)

-- events are given to the targets of a list by their numbers, from k on
abbrev pub given : {X : Type 0} → Table X → Option Event → X → X
given t None x = x
given t (Some e) x = t.after x e

abbrev pub feed : {X : Type 0} → Table X → (ℕ → Option Event) → ℕ → List X → List X
feed t f k [] = []
feed t f k (x ∷ xs) = given t (f k) x ∷ feed t f (k + 1) xs

-- the answers of those that were given an event, with their numbers
abbrev pub answer_with : {X : Type 0} → Table X → Option Event → ℕ → X → List (ℕ × Answer) → List (ℕ × Answer)
answer_with t None k x rest = rest
answer_with t (Some e) k x rest = (k, t.answer x e) ∷ rest

abbrev pub answers : {X : Type 0} → Table X → (ℕ → Option Event) → ℕ → List X → List (ℕ × Answer)
answers t f k [] = []
answers t f k (x ∷ xs) = answer_with t (f k) k x (answers t f (k + 1) xs)

abbrev pub is_ack : Answer → Bool
is_ack Ack = true
is_ack Nack = false
is_ack Slow = false
is_ack (Byte byte) = false
is_ack Nothing = false

abbrev pub is_slow : Answer → Bool
is_slow Slow = true
is_slow Ack = false
is_slow Nack = false
is_slow (Byte byte) = false
is_slow Nothing = false

-- who acknowledges, or holds the clock to do so, has heard
abbrev pub has_heard : Answer → Bool
has_heard a = is_ack a || is_slow a

-- a start goes as Start to each target at the address, and as Other to all else that is joined
abbrev pub start_event : Bool → Bool → Bool → Option Event
start_event joined addressed reading =
    if joined then (if addressed then Some (event.Start reading) else Some event.Other) else None

abbrev pub chip_start : World → ℕ → Bool → ℕ → Option Event
chip_start w a reading m = start_event (joins_chip w m) (has_address a (addr_of_mux w.board m)) reading

abbrev pub device_start : World → ℕ → Bool → ℕ → Option Event
device_start w a reading d = start_event (joins_device w d) (of_device (λ x. x.addr == a) false w.board d) reading

abbrev pub start_chips : World → ℕ → Bool → List (ℕ × Answer)
start_chips w a reading = answers chip_table (chip_start w a reading) 0 w.chips

abbrev pub start_devices : World → ℕ → Bool → List (ℕ × Answer)
start_devices w a reading = answers state_table (device_start w a reading) 0 w.devices

abbrev pub heard_of : (ℕ → Node) → List (ℕ × Answer) → List Node
heard_of name [] = []
heard_of name (x ∷ xs) = if has_heard x.1 then name x.0 ∷ heard_of name xs else heard_of name xs

-- who hears a start at this address
abbrev pub hearers : World → ℕ → Bool → List Node
hearers w a reading = heard_of node.Chip (start_chips w a reading) ++ heard_of node.Device (start_devices w a reading)

-- the answer of a start: Slow where someone holds the clock, else Ack where someone acknowledges, else Nack
abbrev pub some_answer : (Answer → Bool) → List (ℕ × Answer) → Bool
some_answer test xs = list_any (λ x. test x.1) xs

abbrev pub answer : World → ℕ → Bool → Answer
answer w a reading =
    if some_answer is_slow (start_chips w a reading ++ start_devices w a reading) then Slow
    else if some_answer is_ack (start_chips w a reading ++ start_devices w a reading) then Ack
    else Nack

-- what follows goes to those that have heard
abbrev pub is_chip : ℕ → Node → Bool
is_chip m (node.Chip k) = k == m
is_chip m (node.Device d) = false

abbrev pub is_device : ℕ → Node → Bool
is_device d (node.Device k) = k == d
is_device d (node.Chip m) = false

abbrev pub to_chips : World → Event → ℕ → Option Event
to_chips w e m = if list_any (is_chip m) w.hearing then Some e else None

abbrev pub to_devices : World → Event → ℕ → Option Event
to_devices w e d = if list_any (is_device d) w.hearing then Some e else None

abbrev pub hearing_answers : World → Event → List (ℕ × Answer)
hearing_answers w e = answers chip_table (to_chips w e) 0 w.chips ++ answers state_table (to_devices w e) 0 w.devices

-- a byte that is put is acknowledged where someone acknowledges it
abbrev pub takes : World → ℕ → Bool
takes w byte = some_answer is_ack (hearing_answers w (event.Put byte))

-- a byte that is read is the bitwise AND of what is sent
abbrev pub and_of : List (ℕ × Answer) → ℕ
and_of [] = 255
and_of (x ∷ xs) = bit_and (byte_of x.1) (and_of xs)

abbrev pub gives : World → ℕ
gives w = and_of (hearing_answers w (event.Get true))

-- a stop goes to all that is joined
abbrev pub stop_event : Bool → Option Event
stop_event joined = if joined then Some event.Stop else None

abbrev pub stopped : World → World
stopped w =
    record w {
      chips = feed chip_table (λ m. stop_event (joins_chip w m)) 0 w.chips;
      devices = feed state_table (λ d. stop_event (joins_device w d)) 0 w.devices;
      hearing = [];
      busy = false;
    }

abbrev pub sent_on : World → Event → World
sent_on w e = record w { chips = feed chip_table (to_chips w e) 0 w.chips; devices = feed state_table (to_devices w e) 0 w.devices }

abbrev pub set_level : List ChipView → ℕ → ℕ → List ChipView
set_level chips m level = option_map_or (λ c. slice_set chips m (at_level c level)) (slice_get chips m) chips

-- the world after a call on its port; a failed call acts as a stop
abbrev pub after : World → PortCall → World
after w (call.Start a reading) =
    record w {
      chips = feed chip_table (chip_start w a reading) 0 w.chips;
      devices = feed state_table (device_start w a reading) 0 w.devices;
      hearing = hearers w a reading;
      busy = true;
    }
after w (call.Put byte) = sent_on w (event.Put byte)
after w (call.Get ack) = sent_on w (event.Get ack)
after w call.Stop = stopped w
after w call.Fault = stopped w
after w (call.Line m level) = record w { chips = set_level w.chips m level }

-- after these calls, the first one first
abbrev pub after_all : World → List PortCall → World
after_all w [] = w
after_all w (c ∷ cs) = after_all (after w c) cs

-- the worlds as they are opened, one for each root
abbrev pub opening_world : BoardView → ℕ → World
opening_world b r =
    record { board = b; root = r; chips = map chip_opening b.muxes; devices = map opening_state b.devices; hearing = []; busy = false }

abbrev pub openings : BoardView → List World
openings b = map (opening_world b) (range_with_len 0 (length b.roots))

-- one world for each root of the board, in order
pub record AreWorldsOf (b : BoardView) (ws : List World) : Type 0 where
  pub roots : map (λ w. w.root) ws ≡ range_with_len 0 (length b.roots)
  pub boards : All (λ w. w.board ≡ b) ws

-- the devices that such worlds leave: each as the world of its root has it
abbrev pub device_in : List World → ℕ → ℕ → TargetState
device_in ws r d = option_map_or (λ w. unwrap_or (slice_get w.devices d) Silent) (slice_get ws r) Silent

abbrev pub devices_of : BoardView → List World → List TargetState
devices_of b ws =
    map (λ d. device_in ws (root_of b (of_device (λ x. x.bus) 0 b d)) d) (range_with_len 0 (length b.devices))
