use Rattle.tools.proofs.Cited.{◌≡◌, ◌≤◌, ◌<◌, ◌+◌, ◌-◌, [], false, IfSome, IsTargetAddress, first_place, texts, is_past}
use Rattle.tools.specs.Combined.{descs_at}
use Rattle.tools.proofs.command.transfer.read_descs.Given as goal

abbrev pub invariant-loop : goal.invariant-loop
invariant-loop l =
    record {
      same : descs_at (42 - l.counter) l.place l.messages (texts l.words) ≡ descs_at 42 (first_place l.from) [] (texts l.words);
      near : l.place.at + l.place.room ≤ l.from + 4096 + l.counter;
      small : l.place.room ≤ 4096;
      held : IfSome l.place.held IsTargetAddress;
      more : 0 < l.counter → is_past (texts l.words) l.place.at ≡ false;
    }
