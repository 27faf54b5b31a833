use Rattle.i2c_top.proofs.Cited.{map, vec_capacity, into_iter_items, into_iter_len, behind_of}
use Rattle.i2c_top.proofs.Numbering.{GoesOver}
use Rattle.i2c_top.proofs.forms.atr.behind.Given as goal

abbrev pub invariant-loop-script : goal.invariant-loop-script
invariant-loop-script l = GoesOver (map (behind_of l.fn.translators)) l.fn.scripts.items l.yielded (into_iter_items l.script-iterator)
    (into_iter_len l.script-iterator) l.callers.items (vec_capacity l.callers)
