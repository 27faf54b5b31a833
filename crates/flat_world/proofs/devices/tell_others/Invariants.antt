use Rattle.flat_world.proofs.Cited.{◌≡◌, take, feed, to_others}
use Rattle.flat_world.proofs.devices.tell_others.Given as goal

-- those so far have been told
abbrev pub invariant-loop-number : goal.invariant-loop-number
invariant-loop-number g l = l.targets ≡ feed g.T.Target.table (to_others l.one (take l.number-index l.numbers) l.event) 0 l.fn.targets
