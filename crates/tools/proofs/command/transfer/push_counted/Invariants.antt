use Rattle.tools.proofs.Cited.{◌≡◌, ◌++◌, ◌-◌, counted}
use Rattle.tools.proofs.command.transfer.push_counted.Given as goal

abbrev pub invariant-loop : goal.invariant-loop
invariant-loop l = l.bytes ++ counted (l.count - l.counter) l.byte l.step ≡ l.fn.bytes ++ counted l.count l.first l.step
