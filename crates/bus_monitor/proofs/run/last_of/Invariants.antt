use Rattle.std.proofs.Common.{◌≡◌, true}
use Rattle.std.specs.Prelude.{IfSome}
use Rattle.bus_core.specs.State.{has_caller}
use Rattle.bus_monitor.proofs.run.last_of.Given as goal

abbrev pub invariant-loop-caller : goal.invariant-loop-caller
invariant-loop-caller g l = IfSome l.last (λ caller. has_caller g.N.Naming.opening.scripts caller ≡ true)
