-- What the calls on told lines show to whom only sees the levels: a start or a stop where SDA changes while SCL is high (UM10204
-- section 3.1.4), and the level of SDA at each rise of SCL (section 3.1.3).
use Rattle.std.specs.Prelude.{◌≡◌, ◌⊎◌, ℕ, Bool, true, false, ◌∷◌}
use Rattle.i2c_base.specs.declared.event.Answer.{Answer}
use Rattle.i2c_base.specs.declared.event.Answer.TheVariants.{Ack, Nack, Slow, Byte, Nothing}
use Rattle.wire_spec.specs.Wires.{bits, shifted}
use Rattle.wire_spec.specs.Bus.{Seen, Level, Started, Stopped, with_levels}
use Rattle.wire_spec.specs.Calls.{byte_seen}

-- an address byte: the seven bits of the address, and then the direction, 1 for a read (section 3.1.10)
abbrev pub address_byte : ℕ → (reading : Bool) → ℕ
address_byte addr reading = shifted addr reading

-- a start; before a repeated one, within a message, SCL rises once, with SDA high (section 3.1.4)
abbrev pub begun_seen : (busy : Bool) → Seen → Seen
begun_seen false c = Started ∷ c
begun_seen true c = Started ∷ Level true ∷ c

-- the eight bits of an address byte behind it
abbrev pub called_seen : (busy : Bool) → (byte : ℕ) → Seen → Seen
called_seen busy byte c = with_levels (bits 8 byte) (begun_seen busy c)

-- a start shows its address byte with the answer to it; but where it is answered Slow, SCL may rise a ninth time after the last look,
-- with SDA high, or stay low
abbrev pub StartShows : (busy : Bool) → (byte : ℕ) → Answer → Seen → Seen → Type 0
StartShows busy byte Ack old new = new ≡ byte_seen byte true (begun_seen busy old)
StartShows busy byte Nack old new = new ≡ byte_seen byte false (begun_seen busy old)
StartShows busy byte Slow old new = (new ≡ called_seen busy byte old) ⊎ (new ≡ Level true ∷ called_seen busy byte old)
StartShows busy byte (Byte b) old new = ⊥
StartShows busy byte Nothing old new = ⊥

-- SCL rises before a stop, with SDA low; but after a start that was too slow it may be high already, and then the controller's pull of
-- SDA is a start
abbrev pub StopShows : (late : Bool) → Seen → Seen → Type 0
StopShows false old new = new ≡ Stopped ∷ Level false ∷ old
StopShows true old new = (new ≡ Stopped ∷ Level false ∷ old) ⊎ (new ≡ Stopped ∷ Started ∷ old)
