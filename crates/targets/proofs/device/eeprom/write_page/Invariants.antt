-- The places that were looked at have what waited for them.
use Rattle.std.proofs.Common.{◌≡◌, length, take}
use Rattle.i2c_spec.specs.Targets.EepromDevice.{taken_in}
use Rattle.targets.proofs.device.eeprom.write_page.Given as goal

abbrev pub invariant-loop-place : goal.invariant-loop-place
invariant-loop-place l = record {
  taken : l.page ≡ taken_in (take l.place l.waiting) l.fn.page;
  same : length l.page ≡ length l.fn.page;
}
