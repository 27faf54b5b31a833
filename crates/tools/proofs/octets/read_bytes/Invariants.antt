use Rattle.tools.proofs.Cited.{◌≡◌, ◌<◌, ◌+◌, ◌-◌, [], false, texts, is_past}
use Rattle.tools.specs.ByteLists.{bytes_at}
use Rattle.tools.proofs.octets.read_bytes.Given as goal

abbrev pub invariant-loop : goal.invariant-loop
invariant-loop l =
    record {
      same : bytes_at (l.most - l.counter) l.bytes (texts l.words) l.at ≡ bytes_at l.most [] (texts l.words) l.from;
      place : l.at ≡ l.from + l.counter;
      more : 0 < l.counter → is_past (texts l.words) l.at ≡ false;
    }
