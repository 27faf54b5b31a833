use Rattle.tools.proofs.Cited.{◌≡◌, ◌+◌, ◌-◌, read_at, texts}
use Rattle.tools.specs.Sets.{set_block}
use Rattle.tools.proofs.command.set.read_block.Given as goal

abbrev pub invariant-loop : goal.invariant-loop
invariant-loop l =
    record {
      same : read_at (set_block l.head (l.more - l.counter) l.values) (texts l.words) l.at
          ≡ read_at (set_block l.head l.more l.fn.first) (texts l.words) l.from;
      place : l.at ≡ l.from + l.counter;
    }
