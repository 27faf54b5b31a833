-- An EEPROM may go to another thread.
use denote.Param.Send.{IsSend, sendable}
use Rattle.std.proofs.Crossing.{crosses}
use Rattle.targets.specs.contracts.device.eeprom.Eeprom as Eeprom

pub eeprom-send : IsSend (Eeprom.the_field).row
eeprom-send = search (crosses, sendable) depth 20
