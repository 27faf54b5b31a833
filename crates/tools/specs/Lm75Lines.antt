-- lm75: its lines, which read and write a register of a temperature sensor that a driver is bound to.
use Rattle.std.specs.Prelude.{ℕ, ◌%◌, ◌^◌, ◌<◌, ◌==◌, ℤ, pos, negsuc, neg_ℤ, ◌≤ℤ◌, [], ◌∷◌, Option, Some, None, option_and_then, if◌then◌else◌, codes, refl}
use Rattle.std.specs.Option.{option_map}
use Rattle.std.specs.Str.{bytes_eq}
use Rattle.i2c_base.specs.Addr.{IsTargetAddress}
use Rattle.tools.specs.Grammars.{Class, Grammar, ends, word, word_or, class}
use Rattle.tools.specs.LineSets.{Word}
use Rattle.tools.specs.Numbers.{number_in}
use Rattle.tools.specs.Options.{bus_number, address}
use Rattle.tools.specs.declared.command.Cmd.{Cmd}
use Rattle.tools.specs.declared.command.Cmd.TheVariants.{Driver}
use Rattle.tools.specs.declared.command.driver.DriverCmd.TheVariants as driver
use Rattle.tools.specs.declared.command.driver.lm75.Lm75Read.{Lm75Read}
use Rattle.tools.specs.declared.command.driver.lm75.Lm75Write.{Lm75Write}
use Rattle.tools.specs.declared.command.driver.lm75.RegName.{RegName}
use Rattle.tools.specs.declared.command.driver.lm75.RegName.TheVariants.{Temp, Hyst, Max}

-- ---- lm75 read BUS ADDR REGNAME, and lm75 write BUS ADDR REGNAME MILLI

-- REGNAME; the temperature isn't written
abbrev pub written_named : Word → Option RegName
written_named w =
    if bytes_eq w (codes "hyst") then Some Hyst
    else if bytes_eq w (codes "max") then Some Max
    else None

abbrev pub read_named : Word → Option RegName
read_named w = if bytes_eq w (codes "temp") then Some Temp else written_named w

abbrev pub read_name : Class RegName
read_name = record { of = read_named; sample = codes "temp"; means = Temp; fits = refl }

abbrev pub written_name : Class RegName
written_name = record { of = written_named; sample = codes "hyst"; means = Hyst; fits = refl }

-- MILLI: thousandths of a degree, which are half degrees, with `-` before those below 0
abbrev pub half_degree : ℕ → Option ℕ
half_degree n = if n % 500 == 0 then Some n else None

abbrev pub half_degrees : (low high : ℕ) → Word → Option ℕ
half_degrees low high w = option_and_then half_degree (number_in low high w)

abbrev pub milli_in : Word → Option ℤ
milli_in [] = None
milli_in (c ∷ cs) =
    if c == 45 then option_map (λ n. neg_ℤ (pos n)) (half_degrees 1 128000 cs)
    else option_map (λ n. pos n) (half_degrees 0 127500 (c ∷ cs))

abbrev pub milli : Class ℤ
milli = record { of = milli_in; sample = codes "0"; means = pos 0; fits = refl }

module _ (bus addr : ℕ) where
  -- the commands
  abbrev pub reg_read : RegName → Cmd
  reg_read which = Driver (driver.Lm75Read (record { bus = bus; addr = addr; which = which }))

  abbrev pub reg_written : RegName → ℤ → Cmd
  reg_written which z = Driver (driver.Lm75Write (record { bus = bus; addr = addr; which = which; milli = z }))

  -- what follows ADDR
  unfoldable pub read_reg : Grammar Cmd
  read_reg = class read_name (λ which. ends (reg_read which))

  unfoldable pub written_reg : Grammar Cmd
  written_reg = class written_name (λ which. class milli (λ z. ends (reg_written which z)))

-- what follows the first two words
unfoldable pub lm75_read_words : Grammar Cmd
lm75_read_words = class bus_number (λ bus. class address (read_reg bus))

unfoldable pub lm75_write_words : Grammar Cmd
lm75_write_words = class bus_number (λ bus. class address (written_reg bus))

-- what follows the first word
unfoldable pub lm75_words : Grammar Cmd
lm75_words = word_or (codes "read") lm75_read_words (word (codes "write") lm75_write_words)

-- ---- the range of what they mean

-- a register holds from -128 degrees to 127 and a half
pub record IsMilli (z : ℤ) : Type 0 where
  pub low : negsuc 127999 ≤ℤ z
  pub high : z ≤ℤ pos 127500

-- the registers that are written: the temperature isn't
abbrev pub IsWritten : RegName → Type 0
IsWritten Temp = ⊥
IsWritten Hyst = Unit {0}
IsWritten Max = Unit {0}

pub record IsRegReadInRange (r : Lm75Read) : Type 0 where
  pub bus : r.bus < 2 ^ 16
  pub addr : IsTargetAddress r.addr

pub record IsRegWriteInRange (w : Lm75Write) : Type 0 where
  pub bus : w.bus < 2 ^ 16
  pub addr : IsTargetAddress w.addr
  pub which : IsWritten w.which
  pub milli : IsMilli w.milli
