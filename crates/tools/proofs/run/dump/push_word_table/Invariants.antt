use Rattle.tools.proofs.Cited.{◌≡◌, ◌≤◌, ◌+◌, ◌*◌, ◌++◌, flat_map, line_ended, word_line, parts}
use Rattle.tools.proofs.run.dump.push_word_table.Given as goal

abbrev pub invariant-loop-row : goal.invariant-loop-row
invariant-loop-row l =
    record {
      same : l.out.bytes ≡ l.fn.out.bytes ++ flat_map line_ended (parts (word_line l.dump l.replies) l.row);
      room : l.fn.out.room ≤ l.out.room + 44 * l.row;
    }
