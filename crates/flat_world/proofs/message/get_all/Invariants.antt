use Rattle.flat_world.proofs.Cited.{◌≡◌, ◌+◌, length, behind_start, gets}
use Rattle.flat_world.proofs.message.get_all.Given as goal

-- what was read and what is left are the whole
abbrev pub invariant-loop-left : goal.invariant-loop-left
invariant-loop-left l = record {
  calls : l.made + l.left ≡ l.fn.calls + l.fn.len;
  room : length l.got + l.left ≡ length l.fn.got + l.fn.len;
  told : gets behind_start l.cut l.last l.left l.made l.got l.now ≡ gets behind_start l.fn.cut l.fn.last l.fn.len l.fn.calls l.fn.got
      l.fn.now;
}

abbrev pub decreases-loop-left : goal.decreases-loop-left
decreases-loop-left l = l.left
