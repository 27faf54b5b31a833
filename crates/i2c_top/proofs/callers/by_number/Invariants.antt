use Rattle.i2c_top.proofs.Cited.{vec_capacity, enumerate_from, into_iter_items, into_iter_len}
use Rattle.i2c_top.proofs.Numbering.{GoesOver}
use Rattle.i2c_top.proofs.callers.by_number.Given as goal

abbrev pub invariant-loop-caller : goal.invariant-loop-caller
invariant-loop-caller g l = GoesOver (enumerate_from 0) l.fn.callers.items l.yielded (into_iter_items l.caller-iterator)
    (into_iter_len l.caller-iterator) l.by_number.items (vec_capacity l.by_number)
