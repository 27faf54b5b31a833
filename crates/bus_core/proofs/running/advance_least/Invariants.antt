use Rattle.bus_core.proofs.Cited.{◌≡◌, AreHeldUpBelow}
use Rattle.bus_core.proofs.running.advance_least.Given as goal

-- so far none could make a step
abbrev pub invariant-loop-number : goal.invariant-loop-number
invariant-loop-number g l = record {
  same : l.parts ≡ l.fn.parts;
  before : AreHeldUpBelow l.fn.parts l.number;
}
