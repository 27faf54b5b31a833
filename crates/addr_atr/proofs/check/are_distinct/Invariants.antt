use Rattle.addr_atr.proofs.Cited.{◌≡◌, drop, are_distinct}
use Rattle.addr_atr.proofs.check.are_distinct.Given as goal

abbrev pub invariant-loop-index : goal.invariant-loop-index
invariant-loop-index l = are_distinct (drop l.index l.pairs) ≡ are_distinct l.fn.pairs
