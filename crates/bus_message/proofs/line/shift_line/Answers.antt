use Rattle.bus_message.proofs.Cited.{sym, subst, arith, Phase}
use Rattle.i2c_base.specs.Phases.{MayLine}
use Rattle.bus_message.proofs.line.shift_line.Goals as goal

pub line-requires-clause-phase : goal.line-requires-clause-phase
line-requires-clause-phase g c = subst (λ (x : Phase). MayLine x) (sym (c.requires 0).idle) tt

pub line-requires-clause-has : goal.line-requires-clause-has
line-requires-clause-has g c = (c.requires 0).has

pub line-requires-clause-room : goal.line-requires-clause-room
line-requires-clause-room g c = λ tell. omega (arith, (c.requires 0).room tell)
