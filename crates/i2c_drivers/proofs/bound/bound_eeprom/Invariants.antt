use Rattle.std.proofs.Common.{◌≡◌, drop}
use Rattle.std.specs.Prelude.{◌&&◌, find}
use Rattle.i2c_drivers.specs.Bound.{bound_at, is_bound_at, is_eeprom}
use Rattle.i2c_drivers.proofs.bound.bound_eeprom.Given as goal

abbrev pub invariant-loop-device : goal.invariant-loop-device
invariant-loop-device l =
    find (λ d. is_bound_at l.bus l.addr d && is_eeprom d.kind) (drop l.device-index l.board.devices)
    ≡ bound_at l.board is_eeprom l.bus l.addr
