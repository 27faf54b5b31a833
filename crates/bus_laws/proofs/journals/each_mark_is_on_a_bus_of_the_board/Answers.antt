use Rattle.bus_laws.proofs.world.LineFacts.{lines-locked}
use Rattle.bus_laws.proofs.past.Marks.{mark-home, mark-there}
use Rattle.bus_laws.proofs.journals.each_mark_is_on_a_bus_of_the_board.Goals as goal

pub returns : goal.returns
returns c =
    record {
      home = λ b callers asks past plain rules some steps.
          mark-home b (c.an_accepted_board_is_a_tree.ensures b plain rules) plain (lines-locked b rules) asks some callers past steps;
      there = λ b callers asks past plain rules some steps.
          mark-there b (c.an_accepted_board_is_a_tree.ensures b plain rules) plain (lines-locked b rules) asks some callers past steps;
    }
