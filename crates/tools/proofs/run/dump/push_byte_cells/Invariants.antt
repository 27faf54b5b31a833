use Rattle.tools.proofs.Cited.{◌≡◌, ◌≤◌, ◌+◌, ◌*◌, ◌++◌, length, take, dump_cell, dump_sign, parts, in_row}
use Rattle.tools.proofs.run.dump.push_byte_cells.Given as goal

abbrev pub invariant-loop-column : goal.invariant-loop-column
invariant-loop-column l =
    record {
      same : l.out.bytes ≡ l.fn.out.bytes ++ parts (in_row (dump_cell l.dump l.replies) l.row) l.column;
      signs : take l.column l.signs ≡ parts (in_row (dump_sign l.dump l.replies) l.row) l.column;
      wide : length l.signs ≡ 16;
      room : l.fn.out.room ≤ l.out.room + 3 * l.column;
    }
