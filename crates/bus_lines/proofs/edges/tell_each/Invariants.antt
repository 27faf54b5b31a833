use Rattle.bus_lines.proofs.Cited.{false, where_joined, holds_line, seen}
use Rattle.bus_lines.proofs.NumberedLemmas.{IsTold, told_some}
use Rattle.bus_lines.proofs.edges.tell_each.Given as goal

-- what is left to be told comes to what all come to
abbrev pub invariant-loop-number : goal.invariant-loop-number
invariant-loop-number l =
    let f = where_joined (seen l.edge) in
    IsTold f (told_some f holds_line) false l.held l.numbers l.number-index l.fn.targets l.targets
