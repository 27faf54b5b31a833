use Rattle.addr_atr.proofs.Cited.{◌≡◌, map, view, pair_value, take}
use Rattle.addr_atr.proofs.text.pairs_of.Given as goal

abbrev pub invariant-loop-value : goal.invariant-loop-value
invariant-loop-value l = l.pairs.items ≡ map pair_value (map view (take l.value-index l.values))
