use Rattle.bus_lines.proofs.Cited.{known, known_on}
use Rattle.bus_lines.proofs.JoinLemmas.{IsBack}
use Rattle.bus_lines.proofs.joining.refresh_each.Given as goal

-- those from `left` on are read anew
abbrev pub invariant-loop-left : goal.invariant-loop-left
invariant-loop-left l = IsBack known l.places l.fn.targets (known_on l.places l.fn.targets) l.left l.targets

abbrev pub decreases-loop-left : goal.decreases-loop-left
decreases-loop-left l = l.left
