-- What is left to write makes of the memory so far what all of it makes of the memory at the start.
use Rattle.std.proofs.Common.{◌≡◌, drop}
use Rattle.i2c_spec.specs.Targets.SmbusDevice.{held_written}
use Rattle.targets.proofs.device.smbus.write_held.Given as goal

abbrev pub invariant-loop-byte : goal.invariant-loop-byte
invariant-loop-byte l = held_written l.memory l.place (drop l.byte-index l.bytes) ≡ held_written l.fn.memory l.fn.start l.bytes
