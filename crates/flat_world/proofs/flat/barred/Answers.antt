use Rattle.flat_world.proofs.Cited.{arith, common_steps}
use Rattle.flat_world.proofs.flat.barred.Goals as goal

pub returns-in-Some : goal.returns-in-Some
returns-in-Some c = grind (arith, common_steps)
