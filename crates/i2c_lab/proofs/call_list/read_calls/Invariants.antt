use Rattle.std.proofs.Common.{◌≡◌, ◌<◌, ◌≤◌, true, length}
use Rattle.tools.specs.Words.{begins_with_word}
use Rattle.i2c_top.specs.Schedules.{is_white, entries_of}
use Rattle.i2c_lab.specs.CallLists.{MOST_WORDS, call_list, calls_from}
use Rattle.i2c_lab.proofs.ListLemmas.{after_calls}
use Rattle.i2c_lab.proofs.call_list.read_calls.Given as goal

abbrev pub decreases-loop-rest : goal.decreases-loop-rest
decreases-loop-rest l = length l.rest

abbrev pub invariant-loop-rest : goal.invariant-loop-rest
invariant-loop-rest l =
    record {
      begins : 0 < length l.rest → begins_with_word is_white l.rest ≡ true;
      within : length l.calls.items ≤ MOST_WORDS;
      same : after_calls l.calls.items (calls_from l.roots (length l.calls.items) (entries_of l.rest)) ≡ call_list l.roots l.text;
    }
