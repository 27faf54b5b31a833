-- The calls of SMBus, a row for each (SMBus 3.2, section 6.5; the two I2C blocks: Linux smbus-protocol).
use Rattle.std.specs.Prelude.{ℕ, ◌/◌, ◌%◌, true, false, Some, None, List, [], ◌∷◌, length}
use Rattle.i2c_spec.specs.declared.smbus_row.CallRow.{CallRow}
use Rattle.i2c_spec.specs.declared.smbus_row.ReadShape.TheVariants.{Nothing, Plain, Counted}
use Rattle.i2c_spec.specs.declared.smbus_row.ValueShape.TheVariants.{Done, Byte, Word, Block, CountedBlock}

-- a word goes low byte first
abbrev pub low_byte_first : ℕ → List ℕ
low_byte_first v = v % 256 ∷ v / 256 ∷ []

-- a block goes after its count
abbrev pub counted_block : List ℕ → List ℕ
counted_block bytes = length bytes ∷ bytes

-- c is the command byte
abbrev pub quick_row : CallRow
quick_row = record { write = Some []; read = Nothing; checked = false; value = Done }

abbrev pub send_byte_row : ℕ → CallRow
send_byte_row b = record { write = Some (b ∷ []); read = Nothing; checked = true; value = Done }

abbrev pub receive_byte_row : CallRow
receive_byte_row = record { write = None; read = Plain 1; checked = true; value = Byte }

abbrev pub write_byte_row : ℕ → ℕ → CallRow
write_byte_row c b = record { write = Some (c ∷ b ∷ []); read = Nothing; checked = true; value = Done }

abbrev pub read_byte_row : ℕ → CallRow
read_byte_row c = record { write = Some (c ∷ []); read = Plain 1; checked = true; value = Byte }

abbrev pub write_word_row : ℕ → ℕ → CallRow
write_word_row c v = record { write = Some (c ∷ low_byte_first v); read = Nothing; checked = true; value = Done }

abbrev pub read_word_row : ℕ → CallRow
read_word_row c = record { write = Some (c ∷ []); read = Plain 2; checked = true; value = Word }

abbrev pub proc_call_row : ℕ → ℕ → CallRow
proc_call_row c v = record { write = Some (c ∷ low_byte_first v); read = Plain 2; checked = true; value = Word }

abbrev pub block_write_row : ℕ → List ℕ → CallRow
block_write_row c bytes = record { write = Some (c ∷ counted_block bytes); read = Nothing; checked = true; value = Done }

abbrev pub block_read_row : ℕ → CallRow
block_read_row c = record { write = Some (c ∷ []); read = Counted; checked = true; value = CountedBlock }

abbrev pub block_proc_row : ℕ → List ℕ → CallRow
block_proc_row c bytes = record { write = Some (c ∷ counted_block bytes); read = Counted; checked = true; value = CountedBlock }

abbrev pub i2c_block_write_row : ℕ → List ℕ → CallRow
i2c_block_write_row c bytes = record { write = Some (c ∷ bytes); read = Nothing; checked = false; value = Done }

abbrev pub i2c_block_read_row : ℕ → ℕ → CallRow
i2c_block_read_row c n = record { write = Some (c ∷ []); read = Plain n; checked = false; value = Block }
