-- The lines of drivers, a row for each: their words, and the range of what they mean.
use Rattle.std.specs.Prelude.{⊤, codes}
use Rattle.tools.specs.At24Lines.{at24_words, IsReadInRange, IsWriteInRange}
use Rattle.tools.specs.Grammars.{Grammar, ends, word_or}
use Rattle.tools.specs.Lm75Lines.{lm75_words, IsRegReadInRange, IsRegWriteInRange}
use Rattle.tools.specs.declared.command.Cmd.{Cmd}
use Rattle.tools.specs.declared.command.Cmd.TheVariants.{Driver}
use Rattle.tools.specs.declared.command.driver.DriverCmd.{DriverCmd}
use Rattle.tools.specs.declared.command.driver.DriverCmd.TheVariants as driver

-- one of these lines, or another
unfoldable pub driver_lines : Grammar Cmd → Grammar Cmd
driver_lines others =
    word_or (codes "at24") at24_words
    (word_or (codes "lm75") lm75_words
    (word_or (codes "sensors") (ends (Driver driver.Sensors)) others))

-- each field of the command is in its range
abbrev pub IsDriverInRange : DriverCmd → Type 0
IsDriverInRange (driver.At24Read r) = IsReadInRange r
IsDriverInRange (driver.At24Write w) = IsWriteInRange w
IsDriverInRange (driver.Lm75Read r) = IsRegReadInRange r
IsDriverInRange (driver.Lm75Write w) = IsRegWriteInRange w
IsDriverInRange driver.Sensors = ⊤
