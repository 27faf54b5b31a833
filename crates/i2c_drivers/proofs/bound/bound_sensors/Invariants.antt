use Rattle.std.proofs.Common.{◌≡◌, ◌≤◌, ◌++◌, drop, length}
use Rattle.std.specs.List.{filter_map}
use Rattle.i2c_drivers.specs.Bound.{sensor_in, sensors_of}
use Rattle.i2c_drivers.proofs.bound.bound_sensors.Given as goal

abbrev pub invariant-loop-device : goal.invariant-loop-device
invariant-loop-device l =
    record {
      same : l.sensors.items ++ filter_map sensor_in (drop l.device-index l.board.devices) ≡ sensors_of l.board;
      few : length l.sensors.items ≤ l.device-index;
    }
