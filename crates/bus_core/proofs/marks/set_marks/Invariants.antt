use Rattle.bus_core.proofs.Cited.{◌≡◌, seen_of, turned_to, AreHeld, words_after}
use Rattle.std.proofs.Common.{drop}
use Rattle.bus_core.proofs.marks.set_marks.Given as goal

-- the words after what is left are those behind all
abbrev pub invariant-loop-due : goal.invariant-loop-due
invariant-loop-due l =
    record {
      same : l.locks ≡ turned_to l.fn.locks (seen_of l.locks);
      told : words_after (drop l.due-index l.updates) (seen_of l.locks) ≡ words_after l.updates (seen_of l.fn.locks);
      held : AreHeld l.fn.locks l.caller (drop l.due-index l.updates);
    }
