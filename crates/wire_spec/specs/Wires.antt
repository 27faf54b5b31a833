-- One target on two wires, SDA and SCL, edge by edge (UM10204, "I2C-bus specification and user manual", section 3.1). A level
-- is true where the line is high.
use Rattle.std.specs.Prelude.{ℕ, zero, suc, ◌==◌, ◌+◌, ◌-◌, ◌*◌, ◌/◌, ◌%◌, ◌^◌, Bool, true, false, not, ◌&&◌, List, [], ◌∷◌, cond}
use Rattle.i2c_base.specs.declared.event.Event.TheVariants.{Start, Other, Put, Get, Stop}
use Rattle.i2c_base.specs.Limits.{MOST_LOOKS}
use Rattle.i2c_base.specs.Table.{Table}
use Rattle.i2c_spec.specs.World.{is_ack, has_heard}
use Rattle.wire_spec.specs.declared.mode.Mode.{Mode}
use Rattle.wire_spec.specs.declared.mode.Mode.TheVariants.{Out, In, Answered, Give, Gave}
use Rattle.wire_spec.specs.declared.mode.Next.{Next}
use Rattle.wire_spec.specs.declared.mode.Next.TheVariants.{Leave, Take, Send}

-- bit k of a number, and its low k bits, the most significant one first, as a byte goes over SDA (section 3.1.5)
abbrev pub bit : ℕ → ℕ → Bool
bit n k = (n / 2 ^ k % 2) == 1

abbrev pub bits : ℕ → ℕ → List Bool
bits zero n = []
bits (suc k) n = bit n k ∷ bits k n

-- the number that has come so far, with one level more after it
abbrev pub shifted : ℕ → Bool → ℕ
shifted v level = 2 * v + cond level 1 0

-- the same with each of these levels
abbrev pub value : ℕ → List Bool → ℕ
value v [] = v
value v (l ∷ ls) = value (shifted v l) ls

-- for so many low looks at SCL a controller waits, and a target that has answered (section 3.1.9; the number is this project's)
abbrev pub LOOKS : ℕ
LOOKS = MOST_LOOKS + 1

-- what is left of so many bits after these
abbrev pub left_of : {A : Type 0} → ℕ → List A → ℕ
left_of m [] = m
left_of zero (l ∷ ls) = zero
left_of (suc m) (l ∷ ls) = left_of m ls

-- what the world of bytes sees of a target. Joined: every mux over its bus has the path's channel open, so that it is on the
-- wires. Heard: it answered Ack or Slow to the last start
pub record Site (X : Type 0) : Type 0 where
  pub addr : ℕ
  pub joined : Bool
  pub heard : Bool
  pub state : X

-- a site of these parts
abbrev pub site_of : {X : Type 0} → ℕ → Bool → Bool → X → Site X
site_of a joined heard x = record { addr = a; joined = joined; heard = heard; state = x }

-- a target on the wires, bit by bit: its site, where it stands within a message, and for how many looks more it holds SCL low
pub record Bit (X : Type 0) : Type 0 where
  pub site : Site X
  pub mode : Mode
  pub hold : ℕ

-- a target of these parts
abbrev pub stands : {X : Type 0} → Site X → Mode → ℕ → Bit X
stands s m hold = record { site = s; mode = m; hold = hold }

-- what a start is to the target that it names
abbrev pub hears : {X : Type 0} → Table X → Site X → Bool → Site X
hears t s reading = record s {
  state = t.after s.state (Start reading);
  heard = has_heard (t.answer s.state (Start reading));
}

-- what another's start is to it
abbrev pub other : {X : Type 0} → Table X → Site X → Site X
other t s = record s { state = t.after s.state Other; heard = false }

-- what a byte is to it that the controller sends
abbrev pub puts : {X : Type 0} → Table X → Site X → ℕ → Site X
puts t s byte = record s { state = t.after s.state (Put byte) }

-- what the controller's answer is to it, to a byte that it sent
abbrev pub gets : {X : Type 0} → Table X → Site X → Bool → Site X
gets t s ack = record s { state = t.after s.state (Get ack) }

-- what a stop is to it, which is out of the message then
abbrev pub stops : {X : Type 0} → Table X → Site X → Site X
stops t s = record s { state = t.after s.state Stop; heard = false }

-- what follows the acknowledge clock of an address: who has acknowledged sends where the controller reads, else takes bytes
-- (section 3.1.10)
abbrev pub next_of : Bool → Bool → Next
next_of acked reading = cond acked (cond reading Send Take) Leave

-- for how many looks it stretches the acknowledge clock of its address (section 3.1.9)
abbrev pub stretch : {X : Type 0} → Table X → Site X → Bool → ℕ
stretch t s reading = cond (hears t s reading).heard (t.hold s.state) 0

-- it acknowledges a start in this direction
abbrev pub acks_start : {X : Type 0} → Table X → Site X → Bool → Bool
acks_start t s reading = is_ack (t.answer s.state (Start reading))

-- its address has come in
abbrev pub called : {X : Type 0} → Table X → Site X → Bool → Bit X
called t s reading =
    stands (hears t s reading) (Answered false (acks_start t s reading) (next_of (acks_start t s reading) reading) LOOKS) (stretch t s reading)

-- an address byte has the address in its upper seven bits (section 3.1.10)
abbrev pub is_named : {X : Type 0} → ℕ → Site X → Bool
is_named byte s = (byte / 2) == s.addr

-- and the R/W bit below, which is set where the controller reads (section 3.1.10)
abbrev pub is_reading : ℕ → Bool
is_reading byte = (byte % 2) == 1

-- an address byte has come in: who isn't named is out of the message
abbrev pub named : {X : Type 0} → Table X → Site X → ℕ → Bit X
named t s byte = cond (is_named byte s) (called t s (is_reading byte)) (stands (other t s) Out 0)

-- a whole byte has come in
abbrev pub whole : {X : Type 0} → Table X → Site X → Bool → ℕ → Bit X
whole t s true byte = named t s byte
whole t s false byte = stands (puts t s byte) (Answered false (is_ack (t.answer s.state (Put byte))) Take LOOKS) 0

-- a bit comes in with each rise, the eighth of which ends the byte (section 3.1.5); v has the bits so far, with this one
abbrev pub shift : {X : Type 0} → Table X → Bit X → Bool → ℕ → ℕ → Bit X
shift t b address zero v = b
shift t b address (suc zero) v = whole t b.site address v
shift t b address (suc (suc n)) v = record b { mode = In address (suc n) v }

-- at the rise of the ninth clock the controller answers a byte that it has read: low for more (section 3.1.6)
abbrev pub give : {X : Type 0} → Table X → Bit X → ℕ → Bool → Bit X
give t b zero level = stands (gets t b.site (not level)) (Gave (not level)) 0
give t b (suc n) level = b

-- what a rise of SCL is to a target that stands so
abbrev pub rise_in : {X : Type 0} → Table X → Bit X → Mode → Bool → Bit X
rise_in t b Out level = b
rise_in t b (In address left v) level = shift t b address left (shifted v level)
rise_in t b (Answered begun acked next looks) level = b
rise_in t b (Give left) level = give t b left level
rise_in t b (Gave more) level = b

-- SCL rises, with SDA at this level: while SCL is high, SDA is read (section 3.1.3)
abbrev pub rise : {X : Type 0} → Table X → Bit X → Bool → Bit X
rise t b level = rise_in t b b.mode level

-- how a target stands behind an acknowledge clock
abbrev pub entered : Next → Mode
entered Leave = Out
entered Take = In false 8 0
entered Send = Give 8

-- where a fall of SCL leads: a bit that was sent is over, an acknowledge clock begins or is over
abbrev pub fallen : Mode → Mode
fallen Out = Out
fallen (In address left v) = In address left v
fallen (Answered false acked next looks) = Answered true acked next looks
fallen (Answered true acked next looks) = entered next
fallen (Give zero) = Give zero
fallen (Give (suc n)) = Give n
fallen (Gave true) = Give 8
fallen (Gave false) = Out

-- SCL falls
abbrev pub fall : {X : Type 0} → Bit X → Bit X
fall b = record b { mode = fallen b.mode }

-- a start: SDA falls while SCL is high (section 3.1.4), and an address comes in
abbrev pub begin : {X : Type 0} → Bit X → Bit X
begin b = stands b.site (In true 8 0) 0

-- a stop: SDA rises while SCL is high (section 3.1.4)
abbrev pub finish : {X : Type 0} → Table X → Bit X → Bit X
finish t b = stands (stops t b.site) Out 0

-- whether a target that stands so pulls SDA: for an acknowledge (section 3.1.6), and for each low bit of the byte that it sends
abbrev pub pulls_at : ℕ → Mode → Bool
pulls_at byte Out = false
pulls_at byte (In address left v) = false
pulls_at byte (Answered begun acked next looks) = begun && acked
pulls_at byte (Give zero) = false
pulls_at byte (Give (suc k)) = not (bit byte k)
pulls_at byte (Gave more) = false

-- it pulls SDA, which it sets while SCL is low (section 3.1.3)
abbrev pub pulls : {X : Type 0} → Table X → Bit X → Bool
pulls t b = pulls_at (t.sends b.site.state) b.mode

-- a byte has come in, and its acknowledge clock hasn't begun: SCL is still high
abbrev pub is_due : Mode → Bool
is_due Out = false
is_due (In address left v) = false
is_due (Answered false acked next looks) = true
is_due (Answered true acked next looks) = false
is_due (Give left) = false
is_due (Gave more) = false

-- it holds SCL low, from the fall after the byte on (section 3.1.9)
abbrev pub holds : {X : Type 0} → Bit X → Bool
holds b = not (is_due b.mode) && not (b.hold == 0)

-- where a low look leads: who has answered waits for so many alone
abbrev pub waited : Mode → Mode
waited Out = Out
waited (In address left v) = In address left v
waited (Answered begun acked next zero) = Out
waited (Answered begun acked next (suc zero)) = Out
waited (Answered begun acked next (suc (suc n))) = Answered begun acked next (suc n)
waited (Give left) = Give left
waited (Gave more) = Gave more

-- the controller has looked at SCL, which was low
abbrev pub tick : {X : Type 0} → Bit X → Bit X
tick b = stands b.site (waited b.mode) (b.hold - 1)

-- one clock: SCL rises with SDA at this level, and falls; and several
abbrev pub clock : {X : Type 0} → Table X → Bit X → Bool → Bit X
clock t b level = fall (rise t b level)

abbrev pub clocks : {X : Type 0} → Table X → Bit X → List Bool → Bit X
clocks t b [] = b
clocks t b (l ∷ ls) = clocks t (clock t b l) ls
