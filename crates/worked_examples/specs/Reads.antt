-- What an analyser sees of a register read, as SMBus 3.2 has it (section 6.5.5).
use Rattle.std.specs.Prelude.{ℕ, true, false, ◌∷◌}
use Rattle.wire_spec.specs.Bus.{Seen, Level, Started, Stopped}
use Rattle.wire_spec.specs.Calls.{byte_seen}
use Rattle.i2c_bits.specs.Showing.{address_byte}

-- a start to write with the number of the register, both acknowledged; the last is seen first
abbrev pub number_seen : (addr register : ℕ) → Seen → Seen
number_seen addr register c = byte_seen register true (byte_seen (address_byte addr false) true (Started ∷ c))

-- SCL rises with SDA high before a repeated start to read, which is acknowledged (UM10204 section 3.1.4); the byte is not, and SCL rises
-- with SDA low before the stop
abbrev pub read_seen : (addr register byte : ℕ) → Seen → Seen
read_seen addr register byte c =
    Stopped ∷ Level false ∷ byte_seen byte false (byte_seen (address_byte addr true) true (Started ∷ Level true ∷ number_seen addr register c))
