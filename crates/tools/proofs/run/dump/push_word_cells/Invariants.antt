use Rattle.tools.proofs.Cited.{◌≡◌, ◌≤◌, ◌+◌, ◌*◌, ◌++◌, dump_word, parts, in_row}
use Rattle.tools.proofs.run.dump.push_word_cells.Given as goal

abbrev pub invariant-loop-column : goal.invariant-loop-column
invariant-loop-column l =
    record {
      same : l.out.bytes ≡ l.fn.out.bytes ++ parts (in_row (dump_word l.dump l.replies) l.row) l.column;
      room : l.fn.out.room ≤ l.out.room + 5 * l.column;
    }
