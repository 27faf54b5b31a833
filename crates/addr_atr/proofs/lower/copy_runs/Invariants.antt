use Rattle.addr_atr.proofs.Cited.{◌≡◌, take}
use Rattle.addr_atr.proofs.lower.copy_runs.Given as goal

abbrev pub invariant-loop-run : goal.invariant-loop-run
invariant-loop-run l = l.copy.items ≡ take l.run-index l.runs
