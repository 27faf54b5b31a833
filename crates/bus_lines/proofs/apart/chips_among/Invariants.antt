use Rattle.bus_lines.proofs.Cited.{◌≡◌, take, count_by, Bit, NodeState, is_chip}
use Rattle.bus_lines.proofs.apart.chips_among.Given as goal

abbrev pub invariant-loop-target : goal.invariant-loop-target
invariant-loop-target l = l.count ≡ count_by (λ (b : Bit NodeState). is_chip b.site.state) (take l.target-index l.targets)
