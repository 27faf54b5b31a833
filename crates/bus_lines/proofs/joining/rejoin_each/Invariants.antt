use Rattle.bus_lines.proofs.Cited.{◌≡◌, drop, some_one, holds_line, rejoin_from, joins_by, read_anew, states_on}
use Rattle.bus_lines.proofs.JoinLemmas.{IsBack}
use Rattle.bus_lines.proofs.joining.rejoin_each.Given as goal

-- those from `left` on are read anew, and are among who holds SCL
abbrev pub invariant-loop-left : goal.invariant-loop-left
invariant-loop-left l =
    record {
      back : IsBack read_anew l.places l.fn.targets (rejoin_from (joins_by l.places (states_on l.fn.targets)) 0 l.fn.targets) l.left l.targets;
      held : l.held ≡ some_one holds_line (drop l.left l.targets);
    }

abbrev pub decreases-loop-left : goal.decreases-loop-left
decreases-loop-left l = l.left
