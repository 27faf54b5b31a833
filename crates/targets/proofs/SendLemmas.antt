-- A device may go to another thread, whatever its kind.
use denote.Param.Send.{IsSend, sendable}
use Rattle.std.proofs.Crossing.{crosses}
use Rattle.targets.proofs.EepromSends.{eeprom-send}
use Rattle.targets.proofs.SmallSends.{smbus-send}
use Rattle.targets.specs.contracts.device.DeviceState as DeviceState
use Rattle.targets.specs.contracts.device.Device as Device

kinds-send : IsSend (Device.the_field).row
kinds-send = search (crosses, sendable, eeprom-send, smbus-send) depth 20

pub device-send : IsSend (DeviceState.the_field).row
device-send = search (crosses, sendable, kinds-send) depth 20
