use Rattle.i2c_boardtext.proofs.Cited.{◌≡◌, map, view, cut_byte, take}
use Rattle.i2c_boardtext.proofs.runs.bytes_of.Given as goal

abbrev pub invariant-loop-value : goal.invariant-loop-value
invariant-loop-value l = l.bytes.items ≡ map cut_byte (map view (take l.value-index l.values))
