-- The generated board of so many roots: behind each root a switch, parent-locked on even roots and mux-locked on odd ones, and on each
-- of its channels an EEPROM that is filled with the channel's number, and a temperature sensor.
use Rattle.std.specs.Prelude.{ℕ, ◌+◌, ◌*◌, ◌/◌, ◌%◌, ◌==◌, false, List, [], ◌∷◌, map, Some, if◌then◌else◌}
use Rattle.std.specs.List.{range_with_len, flat_map}
use Rattle.i2c_base.specs.declared.board.MuxSpec.{MuxSpec}
use Rattle.i2c_base.specs.declared.board.MuxKind.TheVariants.{Pca9548}
use Rattle.i2c_base.specs.declared.board.LockMode.TheVariants.{Parent, Mux}
use Rattle.i2c_base.specs.declared.board.Idle.TheVariants.{Disconnect}
use Rattle.i2c_base.specs.declared.board.DeviceKind.TheVariants as kind
use Rattle.i2c_base.specs.declared.board.Size.TheVariants.{C02}
use Rattle.i2c_base.specs.Board.{BoardView, DeviceView}

-- the bus of a channel of a root's switch
abbrev pub bus_of : (roots root channel : ℕ) → ℕ
bus_of roots root channel = roots + 8 * root + channel

abbrev pub switch_of : (root : ℕ) → MuxSpec
switch_of root = record {
  bus = root;
  kind = Pca9548;
  addr = Some 0x70;
  channels = 8;
  lock = if root % 2 == 0 then Parent else Mux;
  absent = false;
  foreign = 0;
  idle = Disconnect;
}

-- the devices of a channel
abbrev pub devices_on : (bus channel : ℕ) → List DeviceView
devices_on bus channel =
    (record { bus = bus; addr = 0x50; bound = false; kind = kind.Eeprom C02 channel 0 false; set = [] })
    ∷ (record { bus = bus; addr = 0x48; bound = false; kind = kind.Lm75 0x1900; set = [] }) ∷ []

-- channel k of all switches, from 0
abbrev pub devices_of : (roots k : ℕ) → List DeviceView
devices_of roots k = devices_on (bus_of roots (k / 8) (k % 8)) (k % 8)

abbrev pub made_board : (roots : ℕ) → BoardView
made_board roots = record {
  version = 1;
  roots = map (λ r. record { smbus_only = false }) (range_with_len 0 roots);
  muxes = map switch_of (range_with_len 0 roots);
  devices = flat_map (devices_of roots) (range_with_len 0 (8 * roots));
}
