use Rattle.i2c_boardtext.proofs.Cited.{◌≡◌, ◌≤◌, length, drop, vec_capacity, All, IsPlainDevice, each, device_of, devices_of, IsOn, rows_of}
use Rattle.i2c_boardtext.proofs.Cited.{Device}
use Rattle.i2c_boardtext.proofs.device.devices_of.Given as goal

-- what is read and what is left are the whole
abbrev pub invariant-loop-value : goal.invariant-loop-value
invariant-loop-value l = record {
  count : length l.devices.items ≡ l.value-index;
  room : length l.rows ≤ vec_capacity l.devices;
  plain : All IsPlainDevice l.devices.items;
  placed : All (IsOn l.buses) l.devices.items;
  told : each Device (λ before. device_of l.buses) l.devices.items (rows_of (drop l.value-index l.rows)) ≡ devices_of l.buses
      (rows_of l.rows);
}
