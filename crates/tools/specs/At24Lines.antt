-- at24: its lines, which read and write an EEPROM that a driver is bound to.
use Rattle.std.specs.Prelude.{ℕ, ◌^◌, ◌<◌, ◌≤◌, List, [], length, codes, refl}
use Rattle.i2c_base.specs.Addr.{IsTargetAddress}
use Rattle.i2c_base.specs.Bytes.{AreBytes}
use Rattle.tools.specs.ByteLists.{some_bytes}
use Rattle.tools.specs.Grammars.{Class, Grammar, ends, word, word_or, class}
use Rattle.tools.specs.Numbers.{number_in}
use Rattle.tools.specs.Options.{bus_number, address}
use Rattle.tools.specs.declared.command.Cmd.{Cmd}
use Rattle.tools.specs.declared.command.Cmd.TheVariants.{Driver}
use Rattle.tools.specs.declared.command.driver.DriverCmd.TheVariants as driver
use Rattle.tools.specs.declared.command.driver.at24.At24Read.{At24Read}
use Rattle.tools.specs.declared.command.driver.at24.At24Write.{At24Write}

-- a line reads or writes at most so many bytes
abbrev pub MOST_READ : ℕ
MOST_READ = 32768

abbrev pub MOST_WRITTEN : ℕ
MOST_WRITTEN = 64

-- ---- at24 read BUS ADDR OFFSET COUNT, and at24 write BUS ADDR OFFSET BYTE...

-- OFFSET, and COUNT
abbrev pub offset : Class ℕ
offset = record { of = number_in 0 65535; sample = codes "0"; means = 0; fits = refl }

abbrev pub count : Class ℕ
count = record { of = number_in 1 MOST_READ; sample = codes "1"; means = 1; fits = refl }

module _ (bus addr : ℕ) where
  -- the commands
  abbrev pub page_read : (from count : ℕ) → Cmd
  page_read from n = Driver (driver.At24Read (record { bus = bus; addr = addr; offset = from; count = n }))

  abbrev pub page_written : (from : ℕ) → List ℕ → Cmd
  page_written from bytes = Driver (driver.At24Write (record { bus = bus; addr = addr; offset = from; bytes = bytes }))

  -- what follows ADDR
  unfoldable pub read_span : Grammar Cmd
  read_span = class offset (λ from. class count (λ n. ends (page_read from n)))

  unfoldable pub written_span : Grammar Cmd
  written_span = class offset (λ from. some_bytes MOST_WRITTEN [] (page_written from))

-- what follows the first two words
unfoldable pub at24_read_words : Grammar Cmd
at24_read_words = class bus_number (λ bus. class address (read_span bus))

unfoldable pub at24_write_words : Grammar Cmd
at24_write_words = class bus_number (λ bus. class address (written_span bus))

-- what follows the first word
unfoldable pub at24_words : Grammar Cmd
at24_words = word_or (codes "read") at24_read_words (word (codes "write") at24_write_words)

-- ---- the range of what they mean

pub record IsReadInRange (r : At24Read) : Type 0 where
  pub bus : r.bus < 2 ^ 16
  pub addr : IsTargetAddress r.addr
  pub offset : r.offset < 2 ^ 16
  pub some : 1 ≤ r.count
  pub few : r.count ≤ MOST_READ

pub record IsWriteInRange (w : At24Write) : Type 0 where
  pub bus : w.bus < 2 ^ 16
  pub addr : IsTargetAddress w.addr
  pub offset : w.offset < 2 ^ 16
  pub bytes : AreBytes w.bytes
  pub some : 1 ≤ length w.bytes
  pub few : length w.bytes ≤ MOST_WRITTEN
