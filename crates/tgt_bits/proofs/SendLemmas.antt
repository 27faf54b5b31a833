-- A target on two wires may go to another thread where what it is on them may.
use denote.RattleType.{RattleType}
use denote.Param.Send.{IsSend, sendable}
use Rattle.std.proofs.Crossing.{crosses}
use Rattle.wire_spec.specs.contracts.mode.Mode as Mode
use Rattle.wire_spec.specs.contracts.mode.Next as Next
use Rattle.tgt_bits.specs.contracts.target.BitTarget as BitTarget

next-send : IsSend (Next.the_field).row
next-send = search (crosses, sendable) depth 20

mode-send : IsSend (Mode.the_field).row
mode-send = search (crosses, sendable, next-send) depth 20

pub target-send : (T : RattleType) → IsSend T → IsSend (BitTarget.the_field T).row
target-send T sends = search (crosses, sendable, mode-send) depth 40 fits 100000
