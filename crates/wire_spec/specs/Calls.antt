-- What a controller does on the wires, as pulls and looks: a start, a byte that it sends or reads, a stop. And how the lines
-- stand between two of these.
use Rattle.std.specs.Prelude.{ℕ, ◌+◌, Bool, true, false, not, List, [], ◌∷◌, ◌++◌, cond, map, replicate}
use Rattle.i2c_base.specs.Table.{Table}
use Rattle.wire_spec.specs.declared.mode.Mode.{Mode}
use Rattle.wire_spec.specs.declared.mode.Mode.TheVariants.{Out}
use Rattle.wire_spec.specs.Wires.{Site, Bit, LOOKS, bits, stands}
use Rattle.wire_spec.specs.Roots.{at}
use Rattle.wire_spec.specs.Bus.{Seen, with_levels, Bus, Mask, Came, pulled, await, bit_step, bit_steps, then_bits, bus_of}
use Rattle.wire_spec.specs.Started.{calling}

-- so many looks a controller makes at SCL before a stop, by when a target that was too slow has let it go (section 3.1.9; the
-- number is this project's)
abbrev pub STOP_LOOKS : ℕ
STOP_LOOKS = 255

-- what is seen of a byte: its bits, and the answer to it, low for an acknowledge (sections 3.1.5 and 3.1.6)
abbrev pub byte_seen : (byte : ℕ) → (acked : Bool) → Seen → Seen
byte_seen byte acked c = with_levels (bits 8 byte ++ not acked ∷ []) c

-- whether the controller pulls SDA after these bits
abbrev pub last_low : Bool → List Bool → Bool
last_low low [] = low
last_low low (h ∷ hs) = last_low (not h) hs

-- a target that is out of the message
abbrev pub released : {X : Type 0} → Site X → Bit X
released s = stands s Out 0

-- the lines within a message, between two clocks: the controller pulls SCL, and SDA or not; who has heard stands in this mode
abbrev pub within : {X : Type 0} → Mode → Bool → List (Site X) → Seen → Bus X
within m low ss c = bus_of true low (map (at m) ss) c

-- after a start, within the address byte
abbrev pub within_address : {X : Type 0} → ℕ → ℕ → Bool → List (Site X) → Seen → Bus X
within_address left v low ss c = bus_of true low (map (calling left v) ss) c

-- the lines are free: nobody pulls (section 3.1.1)
abbrev pub free : {X : Type 0} → List (Site X) → Seen → Bus X
free ss c = bus_of false false (map (at Out) ss) c

-- what is joined after a stop is read anew, by number, and nobody is in a message then
abbrev pub joined_from : {X : Type 0} → (ℕ → Bool) → ℕ → List (Site X) → List (Site X)
joined_from joins k [] = []
joined_from joins k (s ∷ ss) = record s { joined = joins k; heard = false } ∷ joined_from joins (k + 1) ss

abbrev pub rejoin : {X : Type 0} → Mask X → List (Site X) → List (Site X)
rejoin mask ss = joined_from (mask ss) 0 ss

-- a start: SDA is pulled while SCL is high, and then SCL (section 3.1.4)
abbrev pub start_pulls : {X : Type 0} → Table X → Mask X → Bus X → Bus X
start_pulls t mask w = pulled t mask (pulled t mask w false true) true true

-- within a message both lines are let go first, SDA before SCL
abbrev pub let_both : {X : Type 0} → Table X → Mask X → Bus X → Came X
let_both t mask w = await t 0 LOOKS (pulled t mask (pulled t mask w true false) false false)

-- then a start is a repeated one (section 3.1.4): whether SCL came up, and the lines
abbrev pub repeated_start : {X : Type 0} → Table X → Mask X → Bus X → Bool × Bus X
repeated_start t mask w = ((let_both t mask w).up, start_pulls t mask (let_both t mask w).bus)

-- a stop ends with SDA let go: whether SCL came up, and the lines
abbrev pub stopped : {X : Type 0} → Table X → Mask X → Came X → Bool × Bus X
stopped t mask c = (c.up, pulled t mask c.bus false false)

-- a stop within a message: SDA is pulled, SCL let go and looked at, SDA let go while SCL is high (section 3.1.4)
abbrev pub stop_pulls : {X : Type 0} → Table X → Mask X → Bus X → Bool × Bus X
stop_pulls t mask w = stopped t mask (await t 0 STOP_LOOKS (pulled t mask (pulled t mask w true true) false true))

-- a stop after a start that was too slow, where both lines are let go already
abbrev pub slow_stop : {X : Type 0} → Table X → Mask X → Bus X → Bool × Bus X
slow_stop t mask w = stopped t mask (await t 0 STOP_LOOKS (pulled t mask w false true))

-- a byte is sent in eight bits, and SDA let go in the ninth, where its level is the answer (sections 3.1.5 and 3.1.6)
abbrev pub sent_byte : {X : Type 0} → Table X → Mask X → ℕ → Bus X → Came X
sent_byte t mask byte w =
    then_bits (bit_steps t mask 0 (bits 8 byte) w) (bit_step t mask 0 true (bit_steps t mask 0 (bits 8 byte) w).bus)

-- a clock that adds nothing to what was read
abbrev pub then_answer : {X : Type 0} → Came X → Came X → Came X
then_answer c d = cond c.up (record d { read = c.read }) c

-- SDA is let go for eight bits, which are the byte that is read, and the ninth is the controller's answer: low for more
abbrev pub read_byte : {X : Type 0} → Table X → Mask X → Bool → Bus X → Came X
read_byte t mask ack w =
    then_answer (bit_steps t mask 0 (replicate 8 true) w) (bit_step t mask 0 (not ack) (bit_steps t mask 0 (replicate 8 true) w).bus)
