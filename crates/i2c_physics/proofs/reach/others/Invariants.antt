use Rattle.i2c_physics.proofs.Cited.{◌≡◌, ◌≤◌, length, take, others}
use Rattle.i2c_physics.proofs.reach.others.Given as goal

abbrev pub invariant-loop-number : goal.invariant-loop-number
invariant-loop-number l = record {
  few : length l.rest ≤ l.number-index;
  others : l.rest ≡ others l.chips l.places l.addr (take l.number-index l.numbers);
}
