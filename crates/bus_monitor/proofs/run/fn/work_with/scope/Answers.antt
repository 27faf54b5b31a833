use denote.Param.Send.{sendable}
use Rattle.std.proofs.Crossing.{crosses}
use Rattle.bus_monitor.proofs.SendLemmas.{desk-sync}
use Rattle.bus_monitor.proofs.run.fn.work_with.scope.Goals as goal

pub spawn-requires-send-F : goal.spawn-requires-send-F
spawn-requires-send-F g c κs within = search (sendable, crosses, desk-sync) depth 80 fits 100000
