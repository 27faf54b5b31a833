-- Recorded lines may go to another thread, with all that they hold.
use denote.Param.Send.{IsSend, sendable}
use Rattle.std.proofs.Crossing.{crosses}
use Rattle.bus_lines.proofs.SendLemmas.{lines-send}
use Rattle.bus_waves.specs.contracts.record.Record as Record
use Rattle.bus_waves.specs.contracts.recorded.Recorded as Recorded

record-send : IsSend (Record.the_field).row
record-send = search (crosses, sendable) depth 20

pub recorded-send : IsSend (Recorded.the_field).row
recorded-send = search (crosses, sendable, lines-send, record-send) depth 20
