use Rattle.i2c_top.proofs.Cited.{IsReachOf}
use Rattle.i2c_top.proofs.Numbering.{StandBeside}
use Rattle.i2c_top.proofs.forms.cached.reaches_of.Given as goal

abbrev pub invariant-loop-script : goal.invariant-loop-script
invariant-loop-script l = StandBeside (λ s reach. IsReachOf s.script reach) l.scripts l.script-index l.reaches.items
