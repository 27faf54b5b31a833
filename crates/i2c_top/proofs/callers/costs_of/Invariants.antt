use Rattle.i2c_top.proofs.Cited.{◌≡◌, map, take, cost_of_script}
use Rattle.i2c_top.proofs.callers.costs_of.Given as goal

abbrev pub invariant-loop-script : goal.invariant-loop-script
invariant-loop-script l = l.costs.items ≡ map (λ s. cost_of_script s.script) (take l.script-index l.scripts)
