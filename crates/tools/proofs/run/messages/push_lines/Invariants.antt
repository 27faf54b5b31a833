use Rattle.tools.proofs.Cited.{◌≡◌, ◌+◌, ◌*◌, ◌≤◌, ◌++◌, drop, map, All, flat_map, sum_by, line_ended, IsDescInRange, desc_message}
use Rattle.tools.proofs.Cited.{count_read_by, own_lines}
use Rattle.i2c_base.specs.Fitting.{FitsReads}
use Rattle.tools.proofs.run.messages.push_lines.Given as goal

abbrev pub invariant-loop-message : goal.invariant-loop-message
invariant-loop-message l =
    record {
      same : l.out.bytes ++ flat_map line_ended (own_lines (drop l.message-index l.messages) l.rest)
          ≡ l.fn.out.bytes ++ flat_map line_ended (own_lines l.messages l.bytes);
      each : All IsDescInRange (drop l.message-index l.messages);
      fits : FitsReads (map desc_message (drop l.message-index l.messages)) l.rest;
      room : l.fn.out.room + 5 * sum_by count_read_by (drop l.message-index l.messages) ≤ l.out.room + 5 * sum_by count_read_by l.messages;
    }
