use Rattle.tools.proofs.Cited.{◌≡◌, ◌≤◌, ◌+◌, ◌*◌, ◌++◌, ◌∷◌, flat_map, line_ended, scan_line, parts, heading}
use Rattle.tools.proofs.run.scan.push_table.Given as goal

abbrev pub invariant-loop-row : goal.invariant-loop-row
invariant-loop-row l =
    record {
      same : l.out.bytes ≡ l.fn.out.bytes ++ flat_map line_ended (heading ∷ parts (scan_line l.detect l.replies) l.row);
      room : l.fn.out.room ≤ l.out.room + 52 * (l.row + 1);
    }
