use Rattle.bus_message.proofs.Cited.{arith, common_steps}
use Rattle.bus_message.proofs.message.is_bad_count.Goals as goal

pub returns-then-count-eq0-clause-test : goal.returns-then-count-eq0-clause-test
returns-then-count-eq0-clause-test c = grind (arith, common_steps)

pub returns-else-count-eq0-clause-test : goal.returns-else-count-eq0-clause-test
returns-else-count-eq0-clause-test c = grind (arith, common_steps)

pub returns-then-count-eq0-clause-within : goal.returns-then-count-eq0-clause-within
returns-then-count-eq0-clause-within c = grind (arith, common_steps)

pub returns-else-count-eq0-clause-within : goal.returns-else-count-eq0-clause-within
returns-else-count-eq0-clause-within c = grind (arith, common_steps)
