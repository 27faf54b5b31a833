use Rattle.bus_lines.proofs.Cited.{false, where_joined, Put, seen, acks_put}
use Rattle.bus_lines.proofs.NumberedLemmas.{IsTold, told_was}
use Rattle.bus_lines.proofs.edges.put_each.Given as goal

-- what is left to be told comes to what all come to
abbrev pub invariant-loop-number : goal.invariant-loop-number
invariant-loop-number l =
    let f = where_joined (seen (Put l.byte)) in
    IsTold f (told_was f (acks_put l.byte)) false l.acked l.numbers l.number-index l.fn.targets l.targets
