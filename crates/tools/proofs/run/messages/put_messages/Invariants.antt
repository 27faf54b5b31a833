use Rattle.tools.proofs.Cited.{◌≡◌, ◌+◌, ◌≤◌, drop, length, All, sum_by, size_of, IsDescInRange, bytes_of}
use Rattle.tools.specs.Transfers.{with_messages}
use Rattle.tools.proofs.run.messages.put_messages.Given as goal

abbrev pub invariant-loop-message : goal.invariant-loop-message
invariant-loop-message l =
    record {
      same : with_messages l.transfer (drop l.message-index l.messages) ≡ with_messages l.fn.transfer l.messages;
      each : All IsDescInRange (drop l.message-index l.messages);
      few : length l.transfer.msgs + length (drop l.message-index l.messages) ≤ 42;
      short : sum_by size_of l.transfer.msgs + sum_by bytes_of (drop l.message-index l.messages) ≤ 4096;
    }
