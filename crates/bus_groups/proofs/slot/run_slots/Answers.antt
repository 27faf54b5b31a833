use denote.Param.Send.{sendable}
use Rattle.std.proofs.Crossing.{crosses}
use Rattle.bus_core.proofs.SendLemmas.{core-send}
use Rattle.bus_groups.proofs.slot.run_slots.Goals as goal

pub for_each_mut-requires-send-T : goal.for_each_mut-requires-send-T
for_each_mut-requires-send-T g c κs within = search (sendable, crosses, core-send) depth 60 fits 100000
