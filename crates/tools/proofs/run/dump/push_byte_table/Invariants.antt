use Rattle.tools.proofs.Cited.{◌≡◌, ◌≤◌, ◌+◌, ◌*◌, ◌++◌, ◌∷◌, codes, flat_map, line_ended, byte_line, parts, heading}
use Rattle.tools.proofs.run.dump.push_byte_table.Given as goal

abbrev pub invariant-loop-row : goal.invariant-loop-row
invariant-loop-row l =
    record {
      same : l.out.bytes ≡ l.fn.out.bytes
          ++ flat_map line_ended ((heading ++ codes "    0123456789abcdef") ∷ parts (byte_line l.dump l.replies) l.row);
      room : l.fn.out.room ≤ l.out.room + 72 * (l.row + 1);
    }
