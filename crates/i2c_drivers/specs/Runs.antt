-- A line of a driver as it runs, a row a driver.
use Rattle.std.specs.Prelude.{ℕ, Bool, false}
use Rattle.i2c_base.specs.Board.{BoardView}
use Rattle.tools.specs.Dialogues.{Dialogue}
use Rattle.tools.specs.declared.command.driver.DriverCmd.{DriverCmd}
use Rattle.tools.specs.declared.command.driver.DriverCmd.TheVariants as driver
use Rattle.i2c_drivers.specs.At24.{at24_dialogue, at24_repeats, read_run, eeprom_write_run}
use Rattle.i2c_drivers.specs.Bound.{sensors_of}
use Rattle.i2c_drivers.specs.Lm75.{lm75_dialogue, sensor_read_run, sensor_write_run}
use Rattle.i2c_drivers.specs.Sensors.{senses}
use Rattle.i2c_drivers.specs.declared.run.DriverRun.{DriverRun}
use Rattle.i2c_drivers.specs.declared.run.DriverRun.TheVariants as run

-- how it begins over a board
abbrev pub driver_run : BoardView → DriverCmd → DriverRun
driver_run b (driver.At24Read r) = run.At24 (read_run b r.bus r.addr r.offset r.count)
driver_run b (driver.At24Write w) = run.At24 (eeprom_write_run b w.bus w.addr w.offset w.bytes)
driver_run b (driver.Lm75Read r) = run.Lm75 (sensor_read_run b r.bus r.addr r.which)
driver_run b (driver.Lm75Write w) = run.Lm75 (sensor_write_run b w.bus w.addr w.which w.milli)
driver_run b driver.Sensors = run.Sensors (sensors_of b)

-- what it says to the bus
abbrev pub driver_dialogue : DriverRun → Dialogue
driver_dialogue (run.At24 r) = at24_dialogue r
driver_dialogue (run.Lm75 r) = lm75_dialogue r
driver_dialogue (run.Sensors ss) = senses ss

-- its transfer at a place is that of the place before
abbrev pub repeats : DriverRun → ℕ → Bool
repeats (run.At24 r) k = at24_repeats r k
repeats (run.Lm75 r) k = false
repeats (run.Sensors ss) k = false
