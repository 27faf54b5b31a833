use Rattle.std.proofs.Common.{◌≡◌, ◌+◌, ◌*◌, ◌≤◌, ◌++◌, drop, map, zip}
use Rattle.std.specs.List.{flat_map}
use Rattle.bus_journal.specs.Reports.{line_ended}
use Rattle.i2c_drivers.specs.Sensors.{line_of}
use Rattle.i2c_drivers.proofs.sensors.push_lines.Given as goal

abbrev pub invariant-loop-place : goal.invariant-loop-place
invariant-loop-place l =
    record {
      same : l.out.bytes ++ flat_map line_ended (map line_of (zip (drop l.place l.sensors) (drop l.place l.replies)))
          ≡ l.fn.out.bytes ++ flat_map line_ended (map line_of (zip l.sensors l.replies));
      room : l.fn.out.room ≤ l.out.room + 22 * l.place;
    }
