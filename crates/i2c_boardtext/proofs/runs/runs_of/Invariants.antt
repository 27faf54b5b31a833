use Rattle.i2c_boardtext.proofs.Cited.{◌≡◌, map, view, cut_run, take}
use Rattle.i2c_boardtext.proofs.runs.runs_of.Given as goal

abbrev pub invariant-loop-value : goal.invariant-loop-value
invariant-loop-value l = l.runs.items ≡ map cut_run (map view (take l.value-index l.values))
