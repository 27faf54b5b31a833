use Rattle.std.proofs.Common.{arith}
use Rattle.std.proofs.lemmas.Grind.{common_steps}
use Rattle.targets.proofs.device.eeprom.Eeprom.get.Goals as goal

pub returns-after-ack-clause-after : goal.returns-after-ack-clause-after
returns-after-ack-clause-after c = grind (arith, common_steps)
