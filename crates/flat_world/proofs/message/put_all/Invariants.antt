use Rattle.flat_world.proofs.Cited.{◌≡◌, ◌+◌, drop, behind_start, puts}
use Rattle.flat_world.proofs.message.put_all.Given as goal

-- what was put and what is left are the whole
abbrev pub invariant-loop-byte : goal.invariant-loop-byte
invariant-loop-byte l = record {
  calls : l.calls ≡ 1 + l.byte-index;
  told : puts behind_start l.cut l.last
      (drop l.byte-index l.bytes) l.calls l.now ≡ puts behind_start l.fn.cut l.fn.last l.fn.bytes 1 l.fn.now;
}
