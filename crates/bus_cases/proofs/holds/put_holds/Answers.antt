use denote.Param.Send.{sendable}
use Rattle.i2c_physics.proofs.SendLemmas.{hold_port-send}
use Rattle.bus_cases.proofs.holds.put_holds.Goals as goal

-- a port may go to another thread, with all that it holds
pub top-requires-send-R-P : goal.top-requires-send-R-P
top-requires-send-R-P g c κs within = search (sendable, hold_port-send)
