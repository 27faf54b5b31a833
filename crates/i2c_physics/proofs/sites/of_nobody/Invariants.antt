use Rattle.i2c_physics.proofs.Cited.{◌≡◌, ◌≤◌, [], map, vec_capacity, vec_len, range_with_len, numbers_at}
use Rattle.i2c_physics.proofs.sites.of_nobody.Given as goal

abbrev pub invariant-loop-address : goal.invariant-loop-address
invariant-loop-address l = record {
  listed : map (λ numbers. numbers.items) l.at.items ≡ map (numbers_at []) (range_with_len 0 l.address);
  count : vec_len l.at ≡ l.address;
  room : 128 ≤ vec_capacity l.at;
}
