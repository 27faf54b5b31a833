-- Which devices a driver is bound to (Linux i2c, "instantiating devices"): those of its kind on one bus, whatever stands on the buses
-- over it.
use Rattle.std.specs.Prelude.{ℕ, ◌==◌, Bool, true, false, ◌&&◌, List, Option, Some, None, is_some, find, filter_map, if◌then◌else◌}
use Rattle.std.specs.Option.{option_and_then}
use Rattle.i2c_base.specs.Board.{BoardView, DeviceView}
use Rattle.i2c_base.specs.declared.board.DeviceKind.{DeviceKind}
use Rattle.i2c_base.specs.declared.board.DeviceKind.TheVariants.{Eeprom, Lm75}
use Rattle.i2c_base.specs.declared.board.Size.{Size}
use Rattle.i2c_drivers.specs.declared.bound.Sensor.{Sensor}

-- a driver is bound to the device, which stands at this address on this very bus
abbrev pub is_bound_at : (bus addr : ℕ) → DeviceView → Bool
is_bound_at bus addr d = d.bound && ((d.bus == bus) && (d.addr == addr))

-- the first device of these kinds that a driver is bound to at the address
abbrev pub bound_at : BoardView → (DeviceKind → Bool) → (bus addr : ℕ) → Option DeviceView
bound_at b kinds bus addr = find (λ d. is_bound_at bus addr d && kinds d.kind) b.devices

-- an EEPROM, and its size
abbrev pub is_eeprom : DeviceKind → Bool
is_eeprom (Eeprom size fill busy wp) = true
is_eeprom _ = false

abbrev pub size_of_kind : DeviceKind → Option Size
size_of_kind (Eeprom size fill busy wp) = Some size
size_of_kind _ = None

abbrev pub size_of_device : DeviceView → Option Size
size_of_device d = size_of_kind d.kind

abbrev pub eeprom_at : BoardView → (bus addr : ℕ) → Option Size
eeprom_at b bus addr = option_and_then size_of_device (bound_at b is_eeprom bus addr)

-- a temperature sensor
abbrev pub is_sensor : DeviceKind → Bool
is_sensor (Lm75 raw) = true
is_sensor _ = false

abbrev pub sensor_at : BoardView → (bus addr : ℕ) → Bool
sensor_at b bus addr = is_some (bound_at b is_sensor bus addr)

-- all temperature sensors that a driver is bound to, in file order
abbrev pub sensor_in : DeviceView → Option Sensor
sensor_in d = if d.bound && is_sensor d.kind then Some (record { bus = d.bus; addr = d.addr }) else None

abbrev pub sensors_of : BoardView → List Sensor
sensors_of b = filter_map sensor_in b.devices
