use Rattle.tools.proofs.Cited.{◌≡◌, ◌≤◌, ◌+◌, ◌*◌, ◌++◌, scan_cell, parts, in_row}
use Rattle.tools.proofs.run.scan.push_cells.Given as goal

abbrev pub invariant-loop-column : goal.invariant-loop-column
invariant-loop-column l =
    record {
      same : l.out.bytes ≡ l.fn.out.bytes ++ parts (in_row (scan_cell l.detect l.replies) l.row) l.column;
      room : l.fn.out.room ≤ l.out.room + 3 * l.column;
    }
