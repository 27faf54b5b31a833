-- What a board file says of a device, by its kind. A further kind is a word and a row.
use Rattle.std.specs.Prelude.{ℕ, List, [], ◌∷◌, codes, Option, Some, None, if◌then◌else◌, bytes_eq}
use Rattle.toml.specs.Data.{Members, no_members, get_member}
use Rattle.i2c_base.specs.declared.board.DeviceKind.{DeviceKind}
use Rattle.i2c_base.specs.declared.board.DeviceKind.TheVariants as kind
use Rattle.i2c_base.specs.declared.board.Size.TheVariants.{C02, C32, C256}
use Rattle.i2c_spec.specs.Targets.EepromDevice.{fill_key, busy_key}
use Rattle.i2c_spec.specs.Targets.Lm75Device.{raw_key}
use Rattle.i2c_spec.specs.Targets.RegsDevice.{hold_key}
use Rattle.i2c_spec.specs.Targets.SmbusDevice.{width_key, flip_key}
use Rattle.i2c_spec.specs.Targets.{row_of_kind}
use Rattle.i2c_boardtext.specs.Items.{flag_in}
use Rattle.i2c_boardtext.specs.Numbers.{number_at, number_key, may_say}
use Rattle.i2c_boardtext.specs.Rules.{KeyRule, may_have}
use Rattle.i2c_boardtext.specs.declared.devices.DeviceName.{DeviceName}
use Rattle.i2c_boardtext.specs.declared.devices.OwnKey.{OwnKey}
use Rattle.i2c_boardtext.specs.declared.devices.OwnKey.TheVariants as own
use Rattle.i2c_boardtext.specs.declared.devices.DeviceName.TheVariants as device
use Rattle.i2c_boardtext.specs.declared.rule.Test.TheVariants.{Flag}

abbrev pub device_named : List ℕ → Option DeviceName
device_named word =
    if bytes_eq word (codes "24c02") then Some (device.Eeprom C02)
    else if bytes_eq word (codes "24c32") then Some (device.Eeprom C32)
    else if bytes_eq word (codes "24c256") then Some (device.Eeprom C256)
    else if bytes_eq word (codes "lm75") then Some device.Lm75
    else if bytes_eq word (codes "regs") then Some device.Regs
    else if bytes_eq word (codes "smbus") then Some device.Smbus
    else None

-- the rule that a key of the code stands for, of those that a kind alone has
abbrev pub own_rule : OwnKey → KeyRule
own_rule (own.Number key) = may_say (number_key key)
own_rule (own.Flag name) = may_have name.now Flag

-- the keys that a kind has beside those of every device and its memory's, and the kind as a table says it
pub record DeviceRow : Type 0 where
  pub keys : List KeyRule
  pub says : Members → DeviceKind

abbrev pub device_row : DeviceName → DeviceRow
device_row (device.Eeprom size) =
    record {
      keys = may_say fill_key ∷ may_say busy_key ∷ may_have (codes "wp") Flag ∷ [];
      says = λ ms. kind.Eeprom size (number_at fill_key ms) (number_at busy_key ms) (flag_in (get_member (codes "wp") ms));
    }
device_row device.Lm75 = record { keys = may_say raw_key ∷ []; says = λ ms. kind.Lm75 (number_at raw_key ms) }
device_row device.Regs = record { keys = may_say hold_key ∷ []; says = λ ms. kind.Regs (number_at hold_key ms) }
device_row device.Smbus =
    record { keys = may_say width_key ∷ may_say flip_key ∷ []; says = λ ms. kind.Smbus (number_at width_key ms) (number_at flip_key ms) }

-- the memory that `set` writes; its size hangs on the kind alone, so a table that says nothing tells it
abbrev pub memory_of : DeviceName → Option ℕ
memory_of name = (row_of_kind ((device_row name).says no_members)).memory
