use Rattle.bus_lines.proofs.Cited.{where_joined, Get, seen, gives_get}
use Rattle.bus_lines.proofs.AndLemmas.{told_and}
use Rattle.bus_lines.proofs.NumberedLemmas.{IsTold}
use Rattle.bus_lines.proofs.edges.get_each.Given as goal

-- what is left to be told comes to what all come to
abbrev pub invariant-loop-number : goal.invariant-loop-number
invariant-loop-number l =
    let f = where_joined (seen (Get l.ack)) in
    IsTold f (told_and f gives_get) 255 l.byte l.numbers l.number-index l.fn.targets l.targets
