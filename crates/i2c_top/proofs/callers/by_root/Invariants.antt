use Rattle.i2c_top.proofs.Cited.{vec_capacity, enumerate_from, into_iter_items, into_iter_len}
use Rattle.i2c_top.proofs.Numbering.{GoesOver}
use Rattle.i2c_top.proofs.callers.by_root.Given as goal

abbrev pub invariant-loop-port : goal.invariant-loop-port
invariant-loop-port g l = GoesOver (enumerate_from 0) l.fn.ports.items l.yielded (into_iter_items l.port-iterator)
    (into_iter_len l.port-iterator) l.by_root.items (vec_capacity l.by_root)
