-- The lines of a root may go to another thread, with all targets on them.
use denote.Param.Send.{IsSend, sendable}
use Rattle.std.proofs.Crossing.{crosses}
use Rattle.i2c_board.proofs.SendLemmas.{hop-send}
use Rattle.targets.proofs.SendLemmas.{device-send}
use Rattle.tgt_bits.proofs.SendLemmas.{target-send}
use Rattle.bus_lines.specs.contracts.node.WireTargetKind as WireTargetKind
use Rattle.bus_lines.specs.contracts.node.WireTarget as WireTarget
use Rattle.bus_lines.specs.contracts.place.WirePlace as WirePlace
use Rattle.bus_lines.specs.contracts.index.Index as Index
use Rattle.bus_lines.specs.contracts.numbers.TargetNumbers as TargetNumbers
use Rattle.bus_lines.specs.contracts.register.Register as Register
use Rattle.bus_lines.specs.contracts.sign_log.SignLog as SignLog
use Rattle.bus_lines.specs.contracts.counter.Counter as Counter
use Rattle.bus_lines.specs.contracts.wire_state.WireState as WireState
use Rattle.bus_lines.specs.contracts.root_targets.RootTargets as RootTargets
use Rattle.bus_lines.specs.contracts.bus_lines.BusLines as BusLines

kind-send : IsSend (WireTargetKind.the_field).row
kind-send = search (crosses, sendable, device-send) depth 20

node-send : IsSend (WireTarget.the_field).row
node-send = search (crosses, sendable, kind-send) depth 20

place-send : IsSend (WirePlace.the_field).row
place-send = search (crosses, sendable, hop-send) depth 20

index-send : IsSend (Index.the_field).row
index-send = search (crosses, sendable) depth 20

numbers-send : IsSend (TargetNumbers.the_field).row
numbers-send = search (crosses, sendable) depth 20

register-send : IsSend (Register.the_field).row
register-send = search (crosses, sendable) depth 20

sign-send : IsSend (SignLog.the_field).row
sign-send = search (crosses, sendable) depth 20

counter-send : IsSend (Counter.the_field).row
counter-send = search (crosses, sendable, sign-send) depth 20

pub wire-send : IsSend (WireState.the_field).row
wire-send = search (crosses, sendable) depth 20

targets-send : IsSend (RootTargets.the_field).row
targets-send =
    search (
      crosses,
      sendable,
      target-send,
      node-send,
      place-send,
      index-send,
      numbers-send,
      register-send,
      counter-send,
    ) depth 40 fits 100000

pub lines-send : IsSend (BusLines.the_field).row
lines-send = search (crosses, sendable, targets-send, wire-send) depth 20
