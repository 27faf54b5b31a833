-- A start on the wires, target by target: the address comes in, the acknowledge clock is stretched, and what is left of it
-- (UM10204 sections 3.1.4, 3.1.6, 3.1.9 and 3.1.10).
use Rattle.std.specs.Prelude.{ℕ, ◌-◌, ◌/◌, ◌==◌, Bool, true, false, not, ◌&&◌, List, ◌∷◌, cond, map, if◌then◌else◌}
use Rattle.i2c_base.specs.declared.event.Event.TheVariants.{Start}
use Rattle.i2c_base.specs.declared.event.Answer.{Answer}
use Rattle.i2c_base.specs.declared.event.Answer.TheVariants.{Ack, Nack, Slow}
use Rattle.i2c_base.specs.Table.{Table}
use Rattle.wire_spec.specs.declared.mode.Mode.{Mode}
use Rattle.wire_spec.specs.declared.mode.Mode.TheVariants.{Out, In, Give}
use Rattle.wire_spec.specs.Wires.{Site, Bit, LOOKS, hears, other, stretch, is_named, is_reading, stands}
use Rattle.wire_spec.specs.Roots.{start_site}
use Rattle.wire_spec.specs.Bus.{Seen, Level, Bus, bus_of}

-- an address comes in at all that is joined: so many bits are missing, and the number so far
abbrev pub calling : {X : Type 0} → ℕ → ℕ → Site X → Bit X
calling left v s = stands s (cond s.joined (In true left v) Out) 0

-- in the acknowledge clock of this address byte it still holds SCL after so many looks
abbrev pub stays_if : {X : Type 0} → Table X → ℕ → ℕ → Site X → Bool → Bool → Bool
stays_if t byte made s true true = not ((stretch t s (is_reading byte) - made) == 0)
stays_if t byte made s true false = false
stays_if t byte made s false named = false

abbrev pub stays : {X : Type 0} → Table X → ℕ → ℕ → Site X → Bool
stays t byte made s = stays_if t byte made s s.joined (is_named byte s)

-- where SCL didn't come up in time, all let SDA go at the last look, and who holds SCL for longer has the rest of its hold
abbrev pub late_if : {X : Type 0} → Table X → ℕ → Site X → Bool → Bool → Bit X
late_if t byte s true true = stands (hears t s (is_reading byte)) Out (stretch t s (is_reading byte) - LOOKS)
late_if t byte s true false = stands (other t s) Out 0
late_if t byte s false named = stands s Out 0

abbrev pub late : {X : Type 0} → Table X → ℕ → Site X → Bit X
late t byte s = late_if t byte s s.joined (is_named byte s)

-- the lines then: the controller has let both go
abbrev pub late_bus : {X : Type 0} → Table X → ℕ → List (Site X) → Seen → Bus X
late_bus t byte ss c = bus_of false false (map (late t byte) ss) c

-- SCL has risen, with SDA at this level, where nobody holds it
abbrev pub rose : (held high : Bool) → Seen → Seen
rose held high c = cond held c (Level high ∷ c)

-- what a start with this address byte is to a site in the world of bytes
abbrev pub started : {X : Type 0} → Table X → ℕ → Site X → Site X
started t byte s = start_site t (byte / 2) (is_reading byte) s

-- it is named by a start with this address byte, and answers so
abbrev pub answers_so : {X : Type 0} → Table X → (Answer → Bool) → ℕ → Bool → Site X → Bool
answers_so t test addr reading s = s.joined && ((addr == s.addr) && test (t.answer s.state (Start reading)))

-- how who has acknowledged the address goes on
abbrev pub entered_by : ℕ → Mode
entered_by byte = cond (is_reading byte) (Give 8) (In false 8 0)

-- the answer of a start: Slow where SCL doesn't come up in time, else Ack where SDA is low in that clock
abbrev pub answer_by : Bool → Bool → Answer
answer_by slow acked = if slow then Slow else if acked then Ack else Nack
