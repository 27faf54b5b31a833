-- The temperature sensor LM75, by the data sheets of TI (LM75B) and NXP (LM75B): pointer register, temperature register,
-- configuration register, T-HYST and T-OS registers. A register of two bytes goes high byte first, and its low seven bits are
-- always 0. Bytes after the last one of a register are this project's own.
use Rattle.std.specs.Prelude.{ℕ, ◌+◌, ◌*◌, ◌/◌, ◌%◌, ◌==◌, min, Bool, true, false, if◌then◌else◌, codes}
use Rattle.i2c_base.specs.declared.event.Event.{Event}
use Rattle.i2c_base.specs.declared.event.Event.TheVariants as event
use Rattle.i2c_base.specs.declared.event.Answer.{Answer}
use Rattle.i2c_base.specs.declared.event.Answer.TheVariants as answer
use Rattle.i2c_base.specs.Bytes.{IsByte, IsWord}
use Rattle.i2c_base.specs.Table.{Table}
use Rattle.i2c_spec.specs.Numbers.{NumberKey}

-- its number: the temperature register
abbrev pub raw_key : NumberKey
raw_key = record { name = codes "raw"; low = 0; high = 65535; default = 0 }

-- what has come of the message in progress: nothing, its address, the pointer and k bytes more, or a read whose next byte
-- is byte k of its register, the high one being byte 0
pub data Lm75Phase : Type 0 where
  Idle : Lm75Phase
  Pointer : Lm75Phase
  Data : (k : ℕ) → Lm75Phase
  Read : (k : ℕ) → Lm75Phase

pub record Lm75View : Type 0 where
  pub phase : Lm75Phase
  -- the number of a register: 0 temperature, 1 configuration, 2 hysteresis, 3 limit
  pub pointer : ℕ
  pub temperature : ℕ
  pub configuration : ℕ
  pub hysteresis : ℕ
  pub limit : ℕ

abbrev pub lm75_begun : Bool → Lm75Phase
lm75_begun false = Pointer
lm75_begun true = Read 0

-- a word with its low seven bits 0; with another high byte; and with bit 7 of a byte as its low byte
abbrev pub high_bits : ℕ → ℕ
high_bits n = n / 128 * 128

abbrev pub with_high : ℕ → ℕ → ℕ
with_high word byte = 256 * byte + word % 256

abbrev pub with_low : ℕ → ℕ → ℕ
with_low word byte = 256 * (word / 256) + high_bits byte

-- a register of two bytes after byte k of what is written to it
abbrev pub word_written : ℕ → ℕ → ℕ → ℕ
word_written word k byte = if k == 0 then with_high word byte else if k == 1 then with_low word byte else word

-- only the first byte counts for the configuration, and the temperature isn't written
abbrev pub register_written : Lm75View → ℕ → ℕ → Lm75View
register_written x k byte =
    if x.pointer == 1 then (if k == 0 then record x { configuration = byte } else x)
    else if x.pointer == 2 then record x { hysteresis = word_written x.hysteresis k byte }
    else if x.pointer == 3 then record x { limit = word_written x.limit k byte }
    else x

abbrev pub lm75_put : Lm75View → Lm75Phase → ℕ → Lm75View
lm75_put x Pointer byte = record x { phase = Data 0; pointer = byte % 4 }
lm75_put x (Data k) byte = record (register_written x k byte) { phase = Data (min (k + 1) 2) }
lm75_put x Idle byte = x
lm75_put x (Read k) byte = x

abbrev pub lm75_put_answer : Lm75Phase → Answer
lm75_put_answer Pointer = answer.Ack
lm75_put_answer (Data k) = answer.Ack
lm75_put_answer Idle = answer.Nack
lm75_put_answer (Read k) = answer.Nack

-- byte k of a word, the high one where k is even
abbrev pub byte_of_word : ℕ → ℕ → ℕ
byte_of_word word k = if k % 2 == 0 then word / 256 else word % 256

abbrev pub register_sends : Lm75View → ℕ → ℕ
register_sends x k =
    if x.pointer == 0 then byte_of_word x.temperature k
    else if x.pointer == 1 then x.configuration
    else if x.pointer == 2 then byte_of_word x.hysteresis k
    else byte_of_word x.limit k

abbrev pub lm75_sends : Lm75View → Lm75Phase → ℕ
lm75_sends x (Read k) = register_sends x k
lm75_sends x Idle = 255
lm75_sends x Pointer = 255
lm75_sends x (Data k) = 255

-- k changes between 0 and 1
abbrev pub lm75_get : Lm75View → Lm75Phase → Bool → Lm75View
lm75_get x (Read k) ack = record x { phase = if ack then Read ((k + 1) % 2) else Idle }
lm75_get x Idle ack = x
lm75_get x Pointer ack = x
lm75_get x (Data k) ack = x

-- the table, a line for each event
abbrev pub lm75_after : Lm75View → Event → Lm75View
lm75_after x (event.Start reading) = record x { phase = lm75_begun reading }
lm75_after x (event.Put byte) = lm75_put x x.phase byte
lm75_after x (event.Get ack) = lm75_get x x.phase ack
lm75_after x event.Other = record x { phase = Idle }
lm75_after x event.Stop = record x { phase = Idle }

abbrev pub lm75_answer : Lm75View → Event → Answer
lm75_answer x (event.Start reading) = answer.Ack
lm75_answer x (event.Put byte) = lm75_put_answer x.phase
lm75_answer x (event.Get ack) = answer.Byte (lm75_sends x x.phase)
lm75_answer x event.Other = answer.Nothing
lm75_answer x event.Stop = answer.Nothing

abbrev pub lm75_table : Table Lm75View
lm75_table = record { after = lm75_after; answer = lm75_answer; sends = λ x. lm75_sends x x.phase; hold = λ x. 0 }

-- what it holds are words of two bytes, and a byte
abbrev pub IsLm75OfBytes : Lm75View → Type 0
IsLm75OfBytes x = IsWord x.temperature × IsByte x.configuration × IsWord x.hysteresis × IsWord x.limit

-- the limits as at power-up: 75 and 80 degrees
abbrev pub lm75_opening : ℕ → Lm75View
lm75_opening raw =
    record { phase = Idle; pointer = 0; temperature = high_bits raw; configuration = 0; hysteresis = 0x4B00; limit = 0x5000 }
