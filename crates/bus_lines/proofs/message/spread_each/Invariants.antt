use Rattle.bus_lines.proofs.Cited.{◌≡◌, ◌≤◌, length, map, shared}
use Rattle.bus_lines.proofs.BackLemmas.{first_of}
use Rattle.bus_lines.proofs.message.spread_each.Given as goal

-- those from `number` on have it
abbrev pub invariant-loop-number : goal.invariant-loop-number
invariant-loop-number l = record {
  few : l.number ≤ length l.targets;
  targets : first_of (shared l.left l.value) l.number l.targets ≡ map (shared l.left l.value) l.fn.targets;
}

abbrev pub decreases-loop-number : goal.decreases-loop-number
decreases-loop-number l = l.number
