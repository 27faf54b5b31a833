use Rattle.i2c_physics.proofs.Cited.{◌≡◌, ◌≤◌, length, filter, range_with_len, is_among}
use Rattle.std.specs.Prelude.{◌||◌}
use Rattle.i2c_physics.proofs.reach.union_of.Given as goal

abbrev pub invariant-loop-number : goal.invariant-loop-number
invariant-loop-number l = record {
  few : length l.numbers ≤ l.number;
  found : l.numbers ≡ filter (λ k. is_among l.first k || is_among l.second k) (range_with_len 0 l.number);
}
