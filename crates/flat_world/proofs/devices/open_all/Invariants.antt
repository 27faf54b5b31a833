use Rattle.flat_world.proofs.Cited.{◌≡◌, take}
use Rattle.std.proofs.Common.{map}
use Rattle.i2c_spec.specs.Targets.{opening_state}
use Rattle.flat_world.proofs.devices.open_all.Given as goal

abbrev pub invariant-loop-device : goal.invariant-loop-device
invariant-loop-device l = l.states.items ≡ map opening_state (take l.device-index l.layout.devices.now)
