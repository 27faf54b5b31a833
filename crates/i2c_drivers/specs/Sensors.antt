-- The line `sensors`: the temperature of each sensor that a driver is bound to, in file order (lm-sensors, sensors(1)).
use Rattle.std.specs.Prelude.{ℕ, ◌*◌, List, ◌++◌, length, map, zip, slice_get, Option, Some, None, codes}
use Rattle.std.specs.Fmt.{decimal}
use Rattle.bus_spec.specs.Lines.{two_digits}
use Rattle.i2c_base.specs.Transfer.{TransferView}
use Rattle.i2c_base.specs.declared.reply.Reply.{Reply}
use Rattle.smb_emul.specs.Calls.{messages_of_call}
use Rattle.tools.specs.Dialogues.{Dialogue}
use Rattle.tools.specs.Says.{no_transfer}
use Rattle.i2c_drivers.specs.Lm75.{read_call, reading_text}
use Rattle.i2c_drivers.specs.declared.bound.Sensor.{Sensor}
use Rattle.tools.specs.declared.command.driver.lm75.RegName.TheVariants.{Temp}

-- the transfer to a sensor
abbrev pub sensor_transfer : Option Sensor → TransferView
sensor_transfer None = no_transfer
sensor_transfer (Some s) = messages_of_call (read_call s Temp)

-- the line of a sensor: its bus and address as Linux names a device, and what was read
abbrev pub sensor_name : Sensor → List ℕ
sensor_name s = decimal s.bus ++ (codes "-00" ++ (two_digits s.addr ++ codes " "))

abbrev pub sensor_line : Sensor → Reply → List ℕ
sensor_line s r = sensor_name s ++ reading_text s Temp r

abbrev pub line_of : Sensor × Reply → List ℕ
line_of p = sensor_line p.0 p.1

-- what it says to the bus; a line has at most 22 bytes with its end
abbrev pub senses : List Sensor → Dialogue
senses ss =
    record {
      places = length ss;
      at = λ k. sensor_transfer (slice_get ss k);
      skips = λ k r. 0;
      lines = λ rs. map line_of (zip ss rs);
      most = 22 * length ss;
    }
