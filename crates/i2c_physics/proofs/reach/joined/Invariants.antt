use Rattle.i2c_physics.proofs.Cited.{◌≡◌, ◌≤◌, length, take, filter, joins_at}
use Rattle.i2c_physics.proofs.reach.joined.Given as goal

abbrev pub invariant-loop-number : goal.invariant-loop-number
invariant-loop-number l = record {
  few : length l.joined ≤ l.number-index;
  joined : l.joined ≡ filter (joins_at l.chips l.places) (take l.number-index l.numbers);
}
