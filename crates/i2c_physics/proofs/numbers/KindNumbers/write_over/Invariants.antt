use Rattle.i2c_physics.proofs.Cited.{◌≡◌, ◌≤◌, length, take}
use Rattle.i2c_physics.proofs.numbers.KindNumbers.write_over.Given as goal

abbrev pub invariant-loop-number : goal.invariant-loop-number
invariant-loop-number l = record {
  few : length l.self ≤ l.number-index;
  written : l.self ≡ take l.number-index l.numbers;
}
