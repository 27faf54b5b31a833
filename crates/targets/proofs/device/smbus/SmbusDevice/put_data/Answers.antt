use Rattle.std.proofs.Common.{arith}
use Rattle.std.proofs.lemmas.Grind.{common_steps}
use Rattle.targets.proofs.device.smbus.SmbusDevice.put_data.Goals as goal

pub returns-then-byte-self-clause-answer : goal.returns-then-byte-self-clause-answer
returns-then-byte-self-clause-answer c = grind (arith, common_steps)

pub returns-then-byte-self-clause-after : goal.returns-then-byte-self-clause-after
returns-then-byte-self-clause-after c = grind (arith, common_steps)
