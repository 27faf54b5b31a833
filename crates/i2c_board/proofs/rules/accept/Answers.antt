use Rattle.i2c_board.proofs.Cited.{arith, common_steps}
use Rattle.i2c_board.proofs.BrokenLemmas.{broken_breaks}
use Rattle.i2c_board.proofs.rules.accept.Goals as goal

pub seal-requires : goal.seal-requires
seal-requires c = grind (arith, common_steps)

pub returns-in-Some-clause-broken : goal.returns-in-Some-clause-broken
returns-in-Some-clause-broken c = grind (arith, common_steps, broken_breaks)
