use Rattle.i2c_physics.proofs.Cited.{◌≡◌, ◌+◌, ◌≤◌, ◌∷◌, length, take}
use Rattle.i2c_physics.proofs.numbers.KindNumbers.put_first.Given as goal

abbrev pub invariant-loop-other : goal.invariant-loop-other
invariant-loop-other l = record {
  few : length l.all ≤ l.other-index + 1;
  all : l.all ≡ l.number ∷ take l.other-index l.other-items;
}
