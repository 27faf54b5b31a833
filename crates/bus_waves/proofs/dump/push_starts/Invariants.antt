-- What is written and what is left to write are the whole.
use Rattle.std.proofs.Common.{◌≡◌, ◌++◌, drop}
use Rattle.bus_waves.specs.Dumps.{BOTH_HIGH, starts_from}
use Rattle.bus_waves.proofs.dump.push_starts.Given as goal

abbrev pub invariant-loop-number : goal.invariant-loop-number
invariant-loop-number l =
    l.out.items ++ starts_from l.was l.time l.starts (drop l._number l.steps) ≡ l.fn.out.items ++ starts_from BOTH_HIGH 0 0 l.steps
