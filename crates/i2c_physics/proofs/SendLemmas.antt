-- A port may go to another thread, with all that it holds.
use denote.RattleType.{RattleType}
use denote.Param.Send.{IsSend, IsSync, sendable}
use Rattle.std.proofs.Crossing.{crosses}
use Rattle.i2c_board.proofs.SendLemmas.{hop-send}
use Rattle.i2c_bits.proofs.SendLemmas.{port-send as bit_port-send}
pub use Rattle.bus_lines.proofs.SendLemmas.{lines-send}
use Rattle.i2c_bits.specs.declared.lines.Lines as Lines
use Rattle.targets.proofs.SendLemmas.{device-send}
use Rattle.i2c_physics.specs.contracts.numbers.KindNumbers as KindNumbers
use Rattle.i2c_physics.specs.contracts.place.TargetPlace as TargetPlace
use Rattle.i2c_physics.specs.contracts.reach.Reach as Reach
use Rattle.i2c_physics.specs.contracts.sites.Sites as Sites
use Rattle.i2c_physics.specs.contracts.device_slot.DeviceSlot as DeviceSlot
use Rattle.i2c_physics.specs.contracts.sim_world.SimWorld as SimWorld
use Rattle.i2c_physics.specs.contracts.sim_port.SimPort as SimPort
use Rattle.i2c_physics.specs.contracts.fail_port.FailPort as FailPort
use Rattle.i2c_physics.specs.contracts.words.Words as Words
use Rattle.i2c_physics.specs.contracts.hold_port.HoldPort as HoldPort
use Rattle.i2c_physics.specs.contracts.wire_port.WirePort as WirePort

place-send : IsSend (TargetPlace.the_field).row
place-send = search (crosses, sendable, hop-send) depth 20

sites-send : IsSend (Sites.the_field).row
sites-send = search (crosses, sendable, place-send) depth 20

numbers-send : IsSend (KindNumbers.the_field).row
numbers-send = search (crosses, sendable) depth 20

reach-send : IsSend (Reach.the_field).row
reach-send = search (crosses, sendable, numbers-send) depth 20

device_slot-send : IsSend (DeviceSlot.the_field).row
device_slot-send = search (crosses, sendable, device-send) depth 20

world-send : IsSend (SimWorld.the_field).row
world-send = search (crosses, sendable, device_slot-send, sites-send, reach-send) depth 20

pub port-send : IsSend (SimPort.the_field).row
port-send = search (crosses, sendable, world-send) depth 20

pub fail_port-send : IsSend (FailPort.the_field).row
fail_port-send = search (crosses, sendable, port-send) depth 20

words-send : IsSend (Words.the_field).row
words-send = search (crosses, sendable) depth 20

words-sync : IsSync (Words.the_field).row
words-sync = search (crosses, sendable) depth 20

pub hold_port-send : IsSend (HoldPort.the_field).row
hold_port-send = search (crosses, sendable, port-send, words-send, words-sync) depth 20

pub wire_port-send : (L : RattleType) (ghosts : Lines.Ghosts L.Denot) → IsSend L → IsSend (WirePort.the_field L ghosts).row
wire_port-send L ghosts sends = search (crosses, sendable, bit_port-send) depth 20
