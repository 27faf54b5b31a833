-- What contracts see of reads and writes of an EEPROM, which are within its size.
use Rattle.std.specs.Prelude.{ℕ, ◌+◌, ◌≤◌, nat_le, Bool, List, length}
use Rattle.i2c_base.specs.declared.board.Size.{Size}
use Rattle.i2c_spec.specs.Targets.EepromDevice.{size_of_eeprom}
use Rattle.tools.specs.At24Lines.{MOST_WRITTEN}
use Rattle.i2c_drivers.specs.declared.at24.Eeprom.{Eeprom}

-- so many bytes from a place on
pub record PageReadView : Type 0 where
  pub of : Eeprom
  pub offset : ℕ
  pub count : ℕ

-- these bytes from a place on
pub record PageWriteView : Type 0 where
  pub of : Eeprom
  pub offset : ℕ
  pub bytes : List ℕ

-- so many bytes from a place on are within the size
abbrev pub fits_in : Size → (offset count : ℕ) → Bool
fits_in size offset count = nat_le (offset + count) (size_of_eeprom size)

pub record IsPageRead (r : PageReadView) : Type 0 where
  pub some : 1 ≤ r.count
  pub within : r.offset + r.count ≤ size_of_eeprom r.of.size

pub record IsPageWrite (w : PageWriteView) : Type 0 where
  pub some : 1 ≤ length w.bytes
  pub few : length w.bytes ≤ MOST_WRITTEN
  pub within : w.offset + length w.bytes ≤ size_of_eeprom w.of.size
