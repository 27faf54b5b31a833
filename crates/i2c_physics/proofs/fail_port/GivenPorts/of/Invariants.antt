use Rattle.i2c_physics.proofs.Cited.{take, All}
use Rattle.i2c_physics.specs.FailPorts.{FailsJustAt}
use Rattle.i2c_physics.proofs.fail_port.GivenPorts.of.Given as goal

abbrev pub invariant-loop-port : goal.invariant-loop-port
invariant-loop-port l = All (λ p. FailsJustAt p.fails p.port.log) (take l.port-index l.ports.items)
