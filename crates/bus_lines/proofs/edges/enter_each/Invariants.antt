use Rattle.bus_lines.proofs.Cited.{false, where_joined, Enter, seen, acks_enter}
use Rattle.bus_lines.proofs.NumberedLemmas.{IsTold, told_was}
use Rattle.bus_lines.proofs.edges.enter_each.Given as goal

-- what is left to be told comes to what all come to
abbrev pub invariant-loop-number : goal.invariant-loop-number
invariant-loop-number l =
    let f = where_joined (seen Enter) in
    IsTold f (told_was f acks_enter) false l.acked l.numbers l.number-index l.fn.targets l.targets
