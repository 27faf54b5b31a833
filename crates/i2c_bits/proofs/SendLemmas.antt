-- A port on two wires may go to another thread where its lines may.
use denote.RattleType.{RattleType}
use denote.Param.Send.{IsSend, sendable}
use Rattle.std.proofs.Crossing.{crosses}
use Rattle.i2c_bits.specs.declared.lines.Lines as Lines
use Rattle.i2c_bits.specs.contracts.call_log.CallLog as CallLog
use Rattle.i2c_bits.specs.contracts.bit_port.BitPort as BitPort

log-send : IsSend (CallLog.the_field).row
log-send = search (crosses, sendable) depth 20

pub port-send : (L : RattleType) (ghosts : Lines.Ghosts L.Denot) → IsSend L → IsSend (BitPort.the_field L ghosts).row
port-send L ghosts sends = search (crosses, sendable, log-send) depth 40 fits 100000
