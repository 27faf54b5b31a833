use Rattle.bus_laws.proofs.world.LineFacts.{lines-locked}
use Rattle.bus_laws.proofs.schedule.Coming.{stuck-waits, word-passed}
use Rattle.bus_laws.proofs.waiting.who_is_stuck_waits.Goals as goal

pub returns : goal.returns
returns c =
    record {
      waits = λ b callers asks past plain rules some steps d stuck later comes.
          stuck-waits b (c.an_accepted_board_is_a_tree.ensures b plain rules) plain
          (lines-locked b rules) asks some callers d past steps stuck later comes;
      passed = λ b callers asks past plain rules some steps d words stuck later comes follows.
          word-passed past d words later
          (stuck-waits b (c.an_accepted_board_is_a_tree.ensures b plain rules) plain
          (lines-locked b rules) asks some callers d past steps stuck later comes) follows;
    }
