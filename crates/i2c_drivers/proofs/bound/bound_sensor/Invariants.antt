use Rattle.std.proofs.Common.{◌≡◌, drop}
use Rattle.std.specs.Prelude.{◌&&◌, find, is_some}
use Rattle.i2c_drivers.specs.Bound.{is_bound_at, is_sensor, sensor_at}
use Rattle.i2c_drivers.proofs.bound.bound_sensor.Given as goal

abbrev pub invariant-loop-device : goal.invariant-loop-device
invariant-loop-device l =
    is_some (find (λ d. is_bound_at l.bus l.addr d && is_sensor d.kind) (drop l.device-index l.board.devices))
    ≡ sensor_at l.board l.bus l.addr
