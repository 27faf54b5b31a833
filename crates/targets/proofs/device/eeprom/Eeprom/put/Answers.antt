use Rattle.std.proofs.Common.{arith}
use Rattle.std.proofs.lemmas.Grind.{common_steps}
use Rattle.targets.proofs.device.eeprom.Eeprom.put.Goals as goal

pub returns-else-self-clause-answer : goal.returns-else-self-clause-answer
returns-else-self-clause-answer c = grind (arith, common_steps)

pub returns-else-self-clause-after : goal.returns-else-self-clause-after
returns-else-self-clause-after c = grind (arith, common_steps)

pub returns-in-LowByte-clause-after : goal.returns-in-LowByte-clause-after
returns-in-LowByte-clause-after c = grind (arith, common_steps)
