-- What contracts see of every pair of lines, and what the calls on them come to.
use Rattle.std.specs.Prelude.{ℕ, zero, suc, [], ◌∷◌, ◌≡◌, ◌==◌, ◌+◌, ◌≤◌, Bool, true, false, not, ◌&&◌, min, cond, Result, Ok, Err, List}
use Rattle.i2c_base.specs.declared.event.Answer.{Answer}
use Rattle.i2c_base.specs.declared.event.Answer.TheVariants.{Ack, Nack, Slow, Byte, Nothing}
use Rattle.i2c_base.specs.Board.{BoardView}
use Rattle.i2c_base.specs.Table.{Table}
use Rattle.i2c_spec.specs.Chips.{at_level}
use Rattle.ports.specs.Causes.{counted}
use Rattle.wire_spec.specs.Wires.{Site, Bit, LOOKS, shifted}
use Rattle.wire_spec.specs.Bus.{Bus, Came, rejoined, came_up, gave_up}
use Rattle.wire_spec.specs.Calls.{STOP_LOOKS, start_pulls, repeated_start}
use Rattle.wire_spec.specs.Sites.{NodeState, Chip, Device, node_table, mask_of}
use Rattle.i2c_bits.specs.declared.lines.SclTimeout.{SclTimeout}

-- the table of all targets, mux chips and devices
unfoldable pub the_table : Table NodeState
the_table = node_table

-- a board, and one of its roots
pub record Rooted : Type 0 where
  pub board : BoardView
  pub root : ℕ

-- which targets are joined, as the board and the states tell
unfoldable pub mask_at : Rooted → List (Site NodeState) → ℕ → Bool
mask_at k ss n = mask_of k.board k.root ss n

-- what the pulls and looks have come to
pub record Wire : Type 0 where
  -- whether the last pull pulled SCL low, and SDA
  pub scl : Bool
  pub sda : Bool
  -- the levels that the last look gave
  pub scl_high : Bool
  pub sda_high : Bool
  -- how many of the last looks in a row since the last pull gave SCL low, counted up to 255
  pub low : ℕ
  -- how many pulls pulled SCL where the pull before had let it go; how often that run of low looks has come to 65, and to 255
  pub pulses : ℕ
  pub slow : ℕ
  pub stuck : ℕ

-- the lines are pulled or let go
abbrev pub wire_pulled : Wire → Bool → Bool → Wire
wire_pulled w scl sda = record w { scl = scl; sda = sda; low = 0; pulses = cond (scl && not w.scl) (counted w.pulses) w.pulses }

-- a look gave these levels
abbrev pub wire_looked : Wire → Bool → Bool → Wire
wire_looked w scl_high sda_high =
    record w {
      scl_high = scl_high;
      sda_high = sda_high;
      low = cond scl_high 0 (min (w.low + 1) STOP_LOOKS);
      slow = cond (not scl_high && (w.low + 1 == LOOKS)) (counted w.slow) w.slow;
      stuck = cond (not scl_high && (w.low + 1 == STOP_LOOKS)) (counted w.stuck) w.stuck;
    }

-- one bit of the controller's, as the lines have it: the level after what was read so far
abbrev pub came : ℕ → Result Bool SclTimeout → Bus NodeState → Came NodeState
came v (Ok level) b = came_up (shifted v level) b
came v (Err e) b = gave_up b

-- eight bits, and the answer to a byte that was sent: low is an acknowledge
abbrev pub came_byte : Result ℕ SclTimeout → Bus NodeState → Came NodeState
came_byte (Ok byte) b = came_up byte b
came_byte (Err e) b = gave_up b

abbrev pub came_acked : Result Bool SclTimeout → Bus NodeState → Came NodeState
came_acked (Ok acked) b = came_up (shifted 0 (not acked)) b
came_acked (Err e) b = gave_up b

-- a byte that was read and answered
abbrev pub CameRead : Result ℕ SclTimeout → Bus NodeState → Came NodeState → Type 0
CameRead (Ok byte) b c = came_up byte b ≡ c
CameRead (Err e) b c = (c.up ≡ false) × (b ≡ c.bus)

-- an address byte: the answer that the world gives to it, or SCL stayed low in the eight bits
abbrev pub CameAnswer : Result Answer SclTimeout → Bus NodeState → (eight sent : Came NodeState) → Type 0
CameAnswer (Ok Ack) b eight sent = came_up (shifted 0 false) b ≡ sent
CameAnswer (Ok Nack) b eight sent = came_up (shifted 0 true) b ≡ sent
CameAnswer (Ok Slow) b eight sent = gave_up b ≡ sent
CameAnswer (Ok (Byte byte)) b eight sent = ⊥
CameAnswer (Ok Nothing) b eight sent = ⊥
CameAnswer (Err e) b eight sent = eight.up ≡ false

-- a repeated start, and a stop
abbrev pub CameStart : Result (Unit {0}) SclTimeout → Bus NodeState → Bool × Bus NodeState → Type 0
CameStart (Ok u) b p = (true, b) ≡ p
CameStart (Err e) b p = p.0 ≡ false

-- a start from free lines, and a repeated one within a message
abbrev pub CameBegin : (busy : Bool) → Result (Unit {0}) SclTimeout → Rooted → Bus NodeState → Bus NodeState → Type 0
CameBegin false (Ok u) k old new = new ≡ start_pulls the_table (mask_at k) old
CameBegin false (Err e) k old new = ⊥
CameBegin true r k old new = CameStart r new (repeated_start the_table (mask_at k) old)

abbrev pub came_stop : Result (Unit {0}) SclTimeout → Bus NodeState → Bool × Bus NodeState
came_stop (Ok u) b = (true, b)
came_stop (Err e) b = (false, b)

-- the level of a mux's line is set, of which the chip is one of the targets, by number; who is joined is read anew
abbrev pub node_level : NodeState → ℕ → NodeState
node_level (Chip x) level = Chip (at_level x level)
node_level (Device x) level = Device x

abbrev pub levelled_bits : ℕ → ℕ → List (Bit NodeState) → List (Bit NodeState)
levelled_bits m level [] = []
levelled_bits zero level (b ∷ bs) = record b { site = record b.site { state = node_level b.site.state level } } ∷ bs
levelled_bits (suc m) level (b ∷ bs) = b ∷ levelled_bits m level bs

unfoldable pub lined : (List (Site NodeState) → ℕ → Bool) → ℕ → ℕ → Bus NodeState → Bus NodeState
lined mask m level w = record w { targets = rejoined mask (levelled_bits m level w.targets) }

-- within so many looks the run of low ones didn't come to 65, nor to 255
pub record CameUp (looks : ℕ) (old new : Wire) : Type 0 where
  pub slow : looks ≤ LOOKS → new.slow ≡ old.slow
  pub stuck : looks ≤ STOP_LOOKS → new.stuck ≡ old.stuck

-- it came to the number of looks
pub record StayedLow (looks : ℕ) (old new : Wire) : Type 0 where
  pub slow : looks ≡ LOOKS → new.slow ≡ counted old.slow
  pub stuck : looks ≡ STOP_LOOKS → new.stuck ≡ counted old.stuck

-- SCL was looked at until it was high, so many times at most
abbrev pub LooksMade : {A : Type 0} → ℕ → Result A SclTimeout → Wire → Wire → Type 0
LooksMade looks (Ok a) old new = CameUp looks old new
LooksMade looks (Err e) old new = StayedLow looks old new

-- the last pull let both lines go
pub record AreLetGo (w : Wire) : Type 0 where
  pub scl : w.scl ≡ false
  pub sda : w.sda ≡ false

-- SCL, once let go, looked low 65 times in a row, and both lines are let go then
pub record WasSlow (old new : Wire) : Type 0 where
  pub slow : new.slow ≡ counted old.slow
  pub let_go : AreLetGo new

-- a call within a message fails exactly there
abbrev pub LooksTell : {A E : Type 0} → Result A E → Wire → Wire → Type 0
LooksTell (Ok a) old new = new.slow ≡ old.slow
LooksTell (Err e) old new = WasSlow old new

-- in the acknowledge clock of a start the answer is Slow instead
abbrev pub StartLooksTell : {E : Type 0} → Result Answer E → Wire → Wire → Type 0
StartLooksTell (Ok Ack) old new = new.slow ≡ old.slow
StartLooksTell (Ok Nack) old new = new.slow ≡ old.slow
StartLooksTell (Ok Slow) old new = WasSlow old new
StartLooksTell (Ok (Byte byte)) old new = ⊥
StartLooksTell (Ok Nothing) old new = ⊥
StartLooksTell (Err e) old new = WasSlow old new

-- a stop fails exactly where SCL looked low 255 times in a row
abbrev pub stuck_after : {A E : Type 0} → Result A E → ℕ → ℕ
stuck_after (Ok a) stuck = stuck
stuck_after (Err e) stuck = counted stuck

-- and leaves both lines let go
pub record StopLooksTell {A E : Type 0} (result : Result A E) (old new : Wire) : Type 0 where
  pub stuck : new.stuck ≡ stuck_after result old.stuck
  pub let_go : AreLetGo new
