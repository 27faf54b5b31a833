use Rattle.tools.proofs.Cited.{arith, common_steps}
use Rattle.tools.proofs.value.push_hex_word.Goals as goal

pub returns-clause-bytes : goal.returns-clause-bytes
returns-clause-bytes c = grind (arith, common_steps)
