use Rattle.journal_laws.proofs.Cited.{transfers-walks, walks-led}
use Rattle.journal_laws.proofs.paths.a_journal_keeps_the_walk_rule.Goals as goal
use Rattle.flat_laws.proofs.walk.Rule.{walks-transfers, led-walks}

pub returns : goal.returns
returns c =
    record {
      caller = λ b asks replies steps. (walks-transfers b asks replies steps, transfers-walks b asks replies steps);
      journal = λ b asks past. (led-walks b asks past, walks-led b asks past);
    }
