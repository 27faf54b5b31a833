use Rattle.i2c_physics.proofs.Cited.{◌≡◌, take, fails_on}
use Rattle.i2c_physics.proofs.fail_port.numbers_on.Given as goal

abbrev pub invariant-loop-call : goal.invariant-loop-call
invariant-loop-call l = l.numbers.items ≡ fails_on (take l.call-index l.calls) l.root
