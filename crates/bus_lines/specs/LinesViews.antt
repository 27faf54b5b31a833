-- What is seen of the lines of a root and the targets on them.
use Rattle.std.specs.Prelude.{◌≡◌, ℕ, ◌+◌, ◌/◌, ◌||◌, cond, Bool, true, false, List, ◌∷◌, length, map, min, Option, Some, None}
use Rattle.ports.specs.Causes.{MOST, counted}
use Rattle.i2c_spec.specs.World.{is_ack, is_slow}
use Rattle.wire_spec.specs.Wires.{Bit, is_reading}
use Rattle.wire_spec.specs.Roots.{some_one, where_joined}
use Rattle.wire_spec.specs.Started.{answers_so}
use Rattle.wire_spec.specs.Calls.{byte_seen}
use Rattle.wire_spec.specs.Bus.{Seen, Level, Bus, bus_of, holds_line}
use Rattle.wire_spec.specs.Sites.{NodeState, node_table}
use Rattle.i2c_bits.specs.Wiring.{Rooted, Wire}
use Rattle.bus_lines.specs.Edges.{address_in}
use Rattle.bus_lines.specs.Joins.{PlaceView, places_of, is_chip, kinds_of, states_on, joins_by}
use Rattle.bus_lines.specs.Numbers.{NumbersView}
use Rattle.bus_lines.specs.Units.{RegisterView, shared, AreUnits, IsIndex}

-- the targets of a root: the board and the root, the targets by number, and what the lines have shown
pub record TargetsView : Type 0 where
  pub rooted : Rooted
  pub bits : List (Bit NodeState)
  pub shown : Seen

abbrev pub targets_of : Rooted → List (Bit NodeState) → Seen → TargetsView
targets_of k bs c = record { rooted = k; bits = bs; shown = c }

-- the chips of all muxes of the board and then its devices, with the places of each, and whether one of them holds SCL. Each is as
-- the lists of numbers say, and as it is seen with what has come of an address byte
pub record AreTargets (k : Rooted) (ps : List PlaceView) (held : Bool) (address : RegisterView) (live started : NumbersView)
    (at : List (List ℕ)) (bs : List (Bit NodeState)) : Type 0 where
  pub places : ps ≡ places_of k.board k.root
  pub kinds : map is_chip (states_on bs) ≡ kinds_of k.board
  pub clock : held ≡ some_one holds_line (map (shared address.left address.value) bs)
  pub units : AreUnits address.left live.items started.items at (joins_by ps (states_on bs)) bs
  pub live_room : live.room ≡ length bs
  pub started_room : started.room ≡ length bs
  pub index : IsIndex (length bs) at

-- an address byte with its acknowledge clock, all nine clocks at once: nobody that is named is too slow
pub record AddressIs (byte : ℕ) (acked : Bool) (old new : TargetsView) : Type 0 where
  pub in_time : some_one (λ (b : Bit NodeState). answers_so node_table is_slow (byte / 2) (is_reading byte) b.site) old.bits ≡ false
  pub answer : acked ≡ some_one (λ (b : Bit NodeState). answers_so node_table is_ack (byte / 2) (is_reading byte) b.site) old.bits
  pub after : new ≡ record old { bits = map (where_joined (address_in byte)) old.bits; shown = byte_seen byte acked old.shown }

-- or someone is, or no address comes in, and nothing has happened
abbrev pub IsAddressed : ℕ → Option Bool → TargetsView → TargetsView → Type 0
IsAddressed byte None old new = new ≡ old
IsAddressed byte (Some acked) old new = AddressIs byte acked old new

-- the lines: the board and the root, the targets on them, and what the pulls and looks have come to
pub record LinesView : Type 0 where
  pub rooted : Rooted
  pub bus : Bus NodeState
  pub wire : Wire

-- the lines that these targets are on
abbrev pub lines_of : TargetsView → Wire → LinesView
lines_of t w = record { rooted = t.rooted; bus = bus_of w.scl w.sda t.bits t.shown; wire = w }

-- what the pulls and looks of nine clocks have come to, none of which was looked at while it was low: SDA is pulled or not in the
-- last of them, and was seen at this level
abbrev pub wire_nine : Wire → Bool → Bool → Wire
wire_nine w low level =
    record w { scl = true; sda = low; scl_high = true; sda_high = level; low = 0; pulses = min (w.pulses + 9) MOST }

-- those of a start, or of a repeated one within a message, before which SCL was let go and looked at; and those of a stop
abbrev pub wire_begun : Wire → Bool → Wire
wire_begun w busy =
    record w { scl = true; sda = true; scl_high = busy || w.scl_high; sda_high = busy || w.sda_high; low = 0; pulses = counted w.pulses }

abbrev pub wire_ended : Wire → Wire
wire_ended w = record w { scl = false; sda = false; scl_high = true; sda_high = false; low = 0 }

-- SCL has risen, with SDA at this level, where that is so
abbrev pub rise_if : Bool → (level : Bool) → Seen → Seen
rise_if rises level c = cond rises (Level level ∷ c) c
