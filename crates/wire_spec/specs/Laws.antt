-- The laws of the wires, each of a table of targets: what a controller does, pull by pull and look by look, is what the world of
-- bytes says of it. In each, `mask` says who is joined after a stop, `low` is whether the controller pulled SDA before, and `c`
-- is what was seen before.
use Rattle.std.specs.Prelude.{◌≡◌, ℕ, zero, suc, ◌+◌, ◌/◌, ◌<◌, ◌≤◌, Bool, true, false, not, List, [], ◌∷◌, ◌++◌, length, map, cond, replicate}
use Rattle.std.specs.List.{AllByRecursion}
use Rattle.i2c_base.specs.Bytes.{IsByte}
use Rattle.i2c_base.specs.Limits.{MOST_LOOKS}
use Rattle.i2c_base.specs.Table.{Table}
use Rattle.i2c_spec.specs.Targets.{IsQuiet}
use Rattle.i2c_spec.specs.World.{is_ack, is_slow}
use Rattle.wire_spec.specs.declared.mode.Mode.{Mode}
use Rattle.wire_spec.specs.declared.mode.Mode.TheVariants.{Out, In, Give}
use Rattle.wire_spec.specs.Wires.{Site, Bit, LOOKS, bit, bits, value, left_of, puts, gets, is_named, is_reading, shifted, rise, fall, tick, finish, clocks, stands}
use Rattle.wire_spec.specs.Roots.{some_one, hearing, where_joined, pulls_line, and_all, put_site, acks, get_site, sent_by, stop_site}
use Rattle.wire_spec.specs.Bus.{Seen, Level, Started, Stopped, with_levels, Mask, bit_steps, holds_line, came_up, gave_up}
use Rattle.wire_spec.specs.Started.{calling, stays, late_bus, rose, started, answers_so, entered_by}
use Rattle.wire_spec.specs.Calls.{byte_seen, last_low, released, within, within_address, free, rejoin, start_pulls, repeated_start, stop_pulls, slow_stop, sent_byte, read_byte}

-- eight bits, the most significant one first, are the number
abbrev pub BitsAreTheByte : Type 0
BitsAreTheByte = (byte : ℕ) → byte < 256 → value 0 (bits 8 byte) ≡ byte

-- nine clocks of a target that takes bytes are one byte put, whatever SDA is in the ninth
abbrev pub PutIsOneEvent : {X : Type 0} → Table X → Type 0
PutIsOneEvent {X} t = (s : Site X) (byte : ℕ) (last : Bool) → byte < 256
    → clocks t (stands s (In false 8 0) 0) (bits 8 byte ++ last ∷ [])
    ≡ stands (puts t s byte) (In false 8 0) 0

-- a byte that the controller sends is put to each target that has heard, and its ninth clock is low exactly where one of them
-- acknowledges it; what is seen are the bits and that level
abbrev pub PutsAreEvents : {X : Type 0} → Table X → Type 0
PutsAreEvents {X} t = (mask : Mask X) (byte : ℕ) → byte < 256 → (low : Bool) (ss : List (Site X)) (c : Seen)
    → sent_byte t mask byte (within (In false 8 0) low ss c)
    ≡ came_up (shifted 0 (not (some_one (acks t byte) ss))) (within (In false 8 0) false (map (put_site t byte) ss)
    (byte_seen byte (some_one (acks t byte) ss) c))

-- nine clocks of a target that sends are one byte read, whatever SDA is in the first eight, and the ninth tells whether it
-- sends more: low for more
abbrev pub GetIsOneEvent : {X : Type 0} → Table X → Type 0
GetIsOneEvent {X} t = (s : Site X) (ls : List Bool) (last : Bool) → length ls ≡ 8
    → clocks t (stands s (Give 8) 0) (ls ++ last ∷ [])
    ≡ stands (gets t s (not last)) (cond (not last) (Give 8) Out) 0

-- a byte that the controller reads is the AND of what is sent by each target that has heard, and to each of them its answer is
-- one event; what is seen are its bits and that answer
abbrev pub GetsAreEvents : {X : Type 0} → Table X → Type 0
GetsAreEvents {X} t = (mask : Mask X) (ack low : Bool) (ss : List (Site X)) (c : Seen)
    → read_byte t mask ack (within (Give 8) low ss c)
    ≡ came_up (and_all (map (sent_by t) ss)) (within (cond ack (Give 8) Out) ack (map (get_site t ack) ss)
    (byte_seen (and_all (map (sent_by t) ss)) ack c))

-- a byte that comes in, and is cut after some bits, has left no event: what has come waits for the bits that are missing
abbrev pub CutPutIsPartway : {X : Type 0} → Table X → Type 0
CutPutIsPartway {X} t = (mask : Mask X) (hs : List Bool) (left v : ℕ) (low : Bool) (ss : List (Site X)) (c : Seen) → length hs ≤ left
    → bit_steps t mask v hs (within (In false (suc left) v) low ss c)
    ≡ came_up (value v hs) (within (In false (suc (left_of left hs)) (value v hs)) (last_low low hs) ss (with_levels hs c))

-- an address byte that is cut after some bits has left no event either
abbrev pub CutAddressIsPartway : {X : Type 0} → Table X → Type 0
CutAddressIsPartway {X} t = (mask : Mask X) (hs : List Bool) (left v : ℕ) (low : Bool) (ss : List (Site X)) (c : Seen) → length hs ≤ left
    → bit_steps t mask v hs (within_address (suc left) v low ss c)
    ≡ came_up (value v hs) (within_address (suc (left_of left hs)) (value v hs) (last_low low hs) ss (with_levels hs c))

-- so many bits of a number, above so many that are left, the highest first
abbrev pub bits_above : ℕ → ℕ → ℕ → List Bool
bits_above zero left n = []
bits_above (suc k) left n = bit n (k + left) ∷ bits_above k left n

-- of a byte that is read, and is cut after some bits, the highest bits of the AND have come
abbrev pub CutGetIsPartway : {X : Type 0} → Table X → Type 0
CutGetIsPartway {X} t = (mask : Mask X) (n left : ℕ) (low : Bool) (ss : List (Site X)) (c : Seen) → n + left ≤ 8
    → bit_steps t mask 0 (replicate n true) (within (Give (n + left)) low ss c)
    ≡ came_up (value 0 (bits_above n left (and_all (map (sent_by t) ss)))) (within (Give left) (last_low low (replicate n true)) ss
    (with_levels (bits_above n left (and_all (map (sent_by t) ss))) c))

-- a start from free lines: all that is joined takes in an address
abbrev pub StartCallsAll : {X : Type 0} → Table X → Type 0
StartCallsAll {X} t = (mask : Mask X) (ss : List (Site X)) (c : Seen)
    → start_pulls t mask (free ss c) ≡ within_address 8 0 true ss (Started ∷ c)

-- a repeated start does the same, after a byte of a write and where nobody is in the message: SCL rises once before it
abbrev pub RepeatedStartCallsAll : {X : Type 0} → Table X → Mode → Type 0
RepeatedStartCallsAll {X} t m = (mask : Mask X) (low : Bool) (ss : List (Site X)) (c : Seen)
    → repeated_start t mask (within m low ss c) ≡ (true, within_address 8 0 true ss (Started ∷ Level true ∷ c))

-- SCL comes up in time in the acknowledge clock of an address byte: the byte is a start for who is named and another's start for
-- all else, and its ninth clock is low exactly where one that is named acknowledges it; what is seen are the bits and that level
abbrev pub AddressComesUp : {X : Type 0} → Table X → Mask X → ℕ → Bool → List (Site X) → Seen → Type 0
AddressComesUp t mask byte low ss c =
    sent_byte t mask byte (within_address 8 0 low ss c)
    ≡ came_up (shifted 0 (not (some_one (answers_so t is_ack (byte / 2) (is_reading byte)) ss)))
    (within (entered_by byte) false (map (started t byte) ss)
    (byte_seen byte (some_one (answers_so t is_ack (byte / 2) (is_reading byte)) ss) c))

-- SCL comes up in time where nobody that is named answers Slow
abbrev pub AddressIsOneEvent : {X : Type 0} → Table X → Type 0
AddressIsOneEvent {X} t = (mask : Mask X) (byte : ℕ) → byte < 256 → (low : Bool) (ss : List (Site X)) (c : Seen)
    → some_one (answers_so t is_slow (byte / 2) (is_reading byte)) ss ≡ false → AddressComesUp t mask byte low ss c

-- SCL comes up in time where nobody holds the clock for more than 64 looks, whatever the number of looks is
abbrev pub HeldClockComesUp : {X : Type 0} → Table X → Type 0
HeldClockComesUp {X} t = (mask : Mask X) (byte : ℕ) → byte < 256 → (low : Bool) (ss : List (Site X)) (c : Seen)
    → AllByRecursion (λ (s : Site X). t.hold s.state ≤ MOST_LOOKS) ss → AddressComesUp t mask byte low ss c

-- where one that is named answers Slow, all 65 looks are low, and the controller lets both lines go; SCL has risen a ninth time
-- only where the 65th look was the last that it was held for
abbrev pub SlowAddressStaysLow : {X : Type 0} → Table X → Type 0
SlowAddressStaysLow {X} t = (mask : Mask X) (byte : ℕ) → byte < 256 → (low : Bool) (ss : List (Site X)) (c : Seen)
    → some_one (answers_so t is_slow (byte / 2) (is_reading byte)) ss ≡ true
    → sent_byte t mask byte (within_address 8 0 low ss c)
    ≡ gave_up (late_bus t byte ss (rose (some_one (stays t byte LOOKS) ss) true (with_levels (bits 8 byte) c)))

-- a stop, after a byte of a write and where nobody is in the message, frees the lines: all that is joined is stopped, and who is
-- joined is read anew
abbrev pub StopFreesTheLines : {X : Type 0} → Table X → Mode → Type 0
StopFreesTheLines {X} t m = (mask : Mask X) (low : Bool) (ss : List (Site X)) (c : Seen)
    → stop_pulls t mask (within m low ss c) ≡ (true, free (rejoin mask (map (stop_site t) ss)) (Stopped ∷ Level false ∷ c))

-- a stop after a start that was too slow frees the lines within 255 looks, where no target holds the clock for more. Where SCL was still
-- held it rises once; where it had come up at the 65th look, the controller's pull of SDA is a start on the wires
abbrev pub StopAfterSlowFreesTheLines : {X : Type 0} → Table X → Type 0
StopAfterSlowFreesTheLines {X} t = (mask : Mask X) (byte : ℕ) (ss : List (Site X)) (c : Seen)
    → AllByRecursion (λ (s : Site X). IsByte (t.hold s.state)) ss
    → slow_stop t mask (late_bus t byte ss c)
    ≡ (
      true,
      free (rejoin mask (map (stop_site t) (map (started t byte) ss)))
          (Stopped ∷ cond (some_one (stays t byte LOOKS) ss) (Level false ∷ c) (Started ∷ c)),
    )

-- who is out of the message sees no edge and no look, and pulls neither line
pub record OutSeesNothing {X : Type 0} (t : Table X) (s : Site X) : Type 0 where
  pub rises : (level : Bool) → where_joined (λ b. rise t b level) (released s) ≡ released s
  pub falls : where_joined fall (released s) ≡ released s
  pub looks : where_joined tick (released s) ≡ released s
  pub pulls : pulls_line t (released s) ≡ false
  pub holds : holds_line (released s) ≡ false

-- and one that has no start since its last stop is left as it is by the last bit of another's address, and by a further stop
pub record QuietStays {X : Type 0} (t : Table X) (s : Site X) : Type 0 where
  pub other : (v : ℕ) (level : Bool) → is_named (shifted v level) s ≡ false → where_joined (λ b. fall (rise t b level)) (calling 1 v s) ≡ released s
  pub stop : where_joined (finish t) (released s) ≡ released s

-- who is out sees nothing, whichever it is
abbrev pub OutStays : {X : Type 0} → Table X → Type 0
OutStays {X} t = (s : Site X) → OutSeesNothing t s

-- who is quiet, and has not heard, stays as it is
abbrev pub QuietOutStays : {X : Type 0} → Table X → Type 0
QuietOutStays {X} t = (s : Site X) → s.heard ≡ false → IsQuiet t s.state → QuietStays t s

-- done only to those that pass, by number from k on
abbrev pub only : {A : Type 0} → (ℕ → Bool) → (A → A) → ℕ → List A → List A
only p f k [] = []
only p f k (x ∷ xs) = cond (p k) (f x) x ∷ only p f (k + 1) xs

-- who doesn't pass would stay as it is
abbrev pub RestStays : {A : Type 0} → (ℕ → Bool) → (A → A) → ℕ → List A → Type 0
RestStays p f k [] = Unit {0}
RestStays p f k (x ∷ xs) = (p k ≡ false → f x ≡ x) × RestStays p f (k + 1) xs

-- an edge that is given to some is given to all, where the rest would stay as it is
abbrev pub SomeAreAll : Type 0 → Type 0
SomeAreAll X = (p : ℕ → Bool) (f : Bit X → Bit X) (k : ℕ) (bs : List (Bit X)) → RestStays p f k bs → only p f k bs ≡ map f bs

-- where nobody has heard, all are out of the message, whatever its direction
abbrev pub UnheardIsOut : {X : Type 0} → Table X → Type 0
UnheardIsOut {X} t = (m : Mode) (low : Bool) (ss : List (Site X)) (c : Seen) → some_one hearing ss ≡ false → within m low ss c ≡ within Out low ss c
