use Rattle.i2c_boardtext.proofs.Cited.{◌≡◌, ◌+◌, ◌++◌, length, map, drop, key_rule}
use Rattle.i2c_boardtext.specs.Devices.{own_rule}
use Rattle.i2c_boardtext.proofs.devices.push_keys.Given as goal

-- those that were put and those that are left are the whole
abbrev pub invariant-loop-key : goal.invariant-loop-key
invariant-loop-key l = record {
  count : length l.rules.items ≡ length l.fn.rules.items + l.key-index;
  told : map key_rule l.rules.items ++ map own_rule (drop l.key-index l.keys) ≡ map key_rule l.fn.rules.items ++ map own_rule l.keys;
}
