use Rattle.bus_core.proofs.Cited.{AreHeldUpBelow}
use Rattle.bus_core.proofs.readiness.ready.Given as goal

abbrev pub invariant-loop-number : goal.invariant-loop-number
invariant-loop-number g l = AreHeldUpBelow l.parts l.number
