use Rattle.i2c_top.proofs.Cited.{◌≡◌, ◌<◌, ◌≤◌, true, length, behind_callers, callers_from, schedule_read}
use Rattle.std.specs.Prelude.{All}
use Rattle.tools.specs.Words.{begins_with_word}
use Rattle.i2c_top.specs.Schedules.{is_white, entries_of, MOST_ENTRIES}
use Rattle.i2c_top.proofs.schedule.read_schedule.Given as goal

abbrev pub decreases-loop-rest : goal.decreases-loop-rest
decreases-loop-rest l = length l.rest

abbrev pub invariant-loop-rest : goal.invariant-loop-rest
invariant-loop-rest l =
    record {
      begins : 0 < length l.rest → begins_with_word is_white l.rest ≡ true;
      within : length l.words.items ≤ MOST_ENTRIES;
      below : All (λ c. c < l.fn.callers) l.words.items;
      same : behind_callers l.words.items
          (callers_from l.fn.callers (length l.words.items) (entries_of l.rest)) ≡ schedule_read l.fn.callers l.fn.text;
    }
