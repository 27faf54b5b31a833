use Rattle.flat_world.proofs.Cited.{arith, common_steps}
use Rattle.flat_world.proofs.message.get_counted.Goals as goal

pub returns-then-count-limit : goal.returns-then-count-limit
returns-then-count-limit c = grind (arith, common_steps)
