-- Watched lines may go to another thread, where the lines may.
use denote.Param.Send.{IsSend, sendable}
use Rattle.std.proofs.Crossing.{crosses}
use Rattle.bus_lines.proofs.SendLemmas.{lines-send}
use Rattle.worked_examples.specs.contracts.watched.Watched as Watched

pub watched-send : IsSend (Watched.the_field).row
watched-send = search (crosses, sendable, lines-send) depth 20
