use Rattle.std.proofs.Common.{◌≡◌, ◌+◌, ◌*◌, ◌≤◌, ◌++◌, drop, length}
use Rattle.i2c_drivers.specs.Rows.{all_bytes_read, cells}
use Rattle.i2c_drivers.proofs.rows.push_byte_lines.Given as goal

abbrev pub invariant-loop-place : goal.invariant-loop-place
invariant-loop-place l =
    record {
      many : l.next + length (all_bytes_read (drop l.place l.replies)) ≡ length (all_bytes_read l.replies);
      same : l.out.bytes ++ cells l.next (all_bytes_read (drop l.place l.replies)) ≡ l.fn.out.bytes ++ cells 0 (all_bytes_read l.replies);
      room : l.fn.out.room ≤ l.out.room + 3 * l.next;
    }
