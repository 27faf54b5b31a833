use Rattle.tools.proofs.Cited.{◌≡◌, ◌+◌, ◌-◌, [], texts}
use Rattle.tools.specs.Combined.{data_at}
use Rattle.tools.proofs.command.transfer.read_data.Given as goal

abbrev pub invariant-loop-more : goal.invariant-loop-more
invariant-loop-more l =
    record {
      same : data_at (l.len - l.more) l.bytes (texts l.words) l.at ≡ data_at l.len [] (texts l.words) l.from;
      place : l.at ≡ l.from + l.more;
    }
