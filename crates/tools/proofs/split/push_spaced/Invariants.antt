use Rattle.tools.proofs.Cited.{◌≡◌, ◌<◌, ◌++◌, true, length, flat_map, begins_with_word, is_blank, words_of}
use Rattle.tools.specs.Splits.{behind_space}
use Rattle.tools.proofs.split.push_spaced.Given as goal

abbrev pub decreases-loop-rest : goal.decreases-loop-rest
decreases-loop-rest l = length l.rest

abbrev pub invariant-loop-rest : goal.invariant-loop-rest
invariant-loop-rest l =
    record {
      begins : 0 < length l.rest → begins_with_word is_blank l.rest ≡ true;
      same : l.out.items ++ flat_map behind_space (words_of l.rest) ≡ l.fn.out.items ++ flat_map behind_space (words_of l.fn.text);
    }
