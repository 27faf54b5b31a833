use Rattle.tools.proofs.Cited.{◌≡◌, ◌+◌, ◌*◌, ◌≤◌, ◌++◌, take, flat_map, spaced_word}
use Rattle.tools.proofs.value.push_spaced_words.Given as goal

abbrev pub invariant-loop-byte : goal.invariant-loop-byte
invariant-loop-byte l =
    record {
      same : l.out.bytes ≡ l.fn.out.bytes ++ flat_map spaced_word (take l.byte-index l.bytes);
      room : l.fn.out.room ≤ l.out.room + 5 * l.byte-index;
    }
