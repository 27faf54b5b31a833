use Rattle.reg_cache.proofs.Cited.{◌≡◌, ◌++◌, map, take, drop, length, reply_by, learn_at}
use Rattle.reg_cache.proofs.known.learn.Given as goal

abbrev pub invariant-loop-place : goal.invariant-loop-place
invariant-loop-place l =
    record {
      items : l.kept.items ≡ map (learn_at l.fn.access (reply_by l.fn.head l.fn.bytes)) (take l.place l.fn.kept.items)
          ++ drop l.place l.fn.kept.items;
      same : length l.kept.items ≡ length l.fn.kept.items;
    }
