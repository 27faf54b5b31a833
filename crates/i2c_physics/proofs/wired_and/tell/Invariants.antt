use Rattle.i2c_physics.proofs.Cited.{◌≡◌, ◌+◌, ◌≤◌, length, drop, answers, feed, wired_and_of, numbers_of, to_those}
use Rattle.i2c_physics.proofs.wired_and.tell.Given as goal

-- the targets of the numbers from `left` on have had the event
abbrev pub invariant-loop-left : goal.invariant-loop-left
invariant-loop-left g l = record {
  in_range : l.left ≤ length l.numbers;
  fed : l.targets ≡ feed g.T.Target.table (to_those (drop l.left l.numbers) l.event) 0 l.fn.targets;
  answered : l.wired_and ≡ wired_and_of (answers g.T.Target.table (to_those (drop l.left l.numbers) l.event) 0 l.fn.targets);
  heard : l.heard ≡ numbers_of (answers g.T.Target.table (to_those (drop l.left l.numbers) l.event) 0 l.fn.targets);
  room : length l.heard + l.left ≤ 128;
}

abbrev pub decreases-loop-left : goal.decreases-loop-left
decreases-loop-left g l = l.left
