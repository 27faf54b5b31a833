use Rattle.bus_journal.proofs.Cited.{◌≡◌, ◌+◌, ◌≤◌, length, bytes_of}
use Rattle.bus_journal.proofs.front.bytes_at.Given as goal

abbrev pub invariant-loop-rest : goal.invariant-loop-rest
invariant-loop-rest l = record {
  counted : l.count + length (bytes_of l.rest) ≡ length (bytes_of l.text);
  within : l.count + length l.rest ≤ length l.text;
}

abbrev pub decreases-loop-rest : goal.decreases-loop-rest
decreases-loop-rest l = length l.rest
