use Rattle.std.proofs.Common.{◌≡◌, ◌+◌, ◌*◌, ◌≤◌, ◌++◌, drop}
use Rattle.i2c_drivers.specs.Rows.{cells}
use Rattle.i2c_drivers.proofs.rows.push_cells.Given as goal

abbrev pub invariant-loop-byte : goal.invariant-loop-byte
invariant-loop-byte l =
    record {
      next : l.next ≡ l.n + l.byte-index;
      same : l.out.bytes ++ cells l.next (drop l.byte-index l.bytes) ≡ l.fn.out.bytes ++ cells l.n l.bytes;
      room : l.fn.out.room ≤ l.out.room + 3 * l.byte-index;
    }
