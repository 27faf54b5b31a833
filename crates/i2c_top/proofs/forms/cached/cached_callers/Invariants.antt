use Rattle.i2c_top.proofs.Cited.{◌≡◌, [], All, map, vec_capacity, into_iter_items, into_iter_len, texts_of}
use Rattle.i2c_top.proofs.CachedRun.{all_cached}
use Rattle.i2c_top.proofs.Numbering.{GoesOver}
use Rattle.i2c_top.proofs.forms.cached.cached_callers.Given as goal

abbrev pub invariant-loop-script : goal.invariant-loop-script
invariant-loop-script l =
    record {
      over : GoesOver (all_cached l.board (texts_of l.fn.scripts.items)) l.fn.scripts.items l.yielded (into_iter_items l.script-iterator)
          (into_iter_len l.script-iterator) (map (λ c. c.script) l.callers.items) (vec_capacity l.callers);
      untaken : All (λ c. c.taken ≡ []) l.callers.items;
    }
