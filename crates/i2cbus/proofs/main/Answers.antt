use denote.Param.Send.{sendable}
use Rattle.i2c_physics.proofs.SendLemmas.{wire_port-send, lines-send}
use Rattle.i2cbus.proofs.main.Goals as goal

-- a port may go to another thread, with all that it holds
pub call-called-requires-send-R-P : goal.call-called-requires-send-R-P
call-called-requires-send-R-P g c κs = search (sendable, wire_port-send, lines-send)
