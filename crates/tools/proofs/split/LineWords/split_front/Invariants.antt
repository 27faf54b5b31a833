use Rattle.tools.proofs.Cited.{◌≡◌, ◌<◌, ◌≤◌, ◌++◌, true, length, begins_with_word, is_blank, words_of, texts}
use Rattle.tools.proofs.JoinedLemmas.{is_joined, is_joined_from}
use Rattle.tools.proofs.split.LineWords.split_front.Given as goal

abbrev pub decreases-loop-rest : goal.decreases-loop-rest
decreases-loop-rest l = length l.rest

abbrev pub invariant-loop-rest : goal.invariant-loop-rest
invariant-loop-rest l =
    record {
      begins : 0 < length l.rest → begins_with_word is_blank l.rest ≡ true;
      same : texts l.self.words.items ++ words_of l.rest ≡ words_of l.fn.line;
      joined : l.joined ≡ true → is_joined true l.fn.line ≡ is_joined_from l.rest;
      kept : length l.self.words.items ≤ l.most;
    }
