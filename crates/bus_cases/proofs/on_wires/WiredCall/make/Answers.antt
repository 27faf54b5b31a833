use denote.Param.Send.{sendable}
use Rattle.i2c_physics.proofs.SendLemmas.{wire_port-send, lines-send}
use Rattle.bus_cases.proofs.on_wires.WiredCall.make.Goals as goal

-- a port may go to another thread, with all that it holds
pub top-status-requires-send-R-P : goal.top-status-requires-send-R-P
top-status-requires-send-R-P g c κs within = search (sendable, wire_port-send, lines-send)
