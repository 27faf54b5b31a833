use Rattle.bus_laws.proofs.Cited.{arith}
use Rattle.bus_laws.proofs.world.LineFacts.{lines-locked}
use Rattle.bus_laws.proofs.past.Ready.{takes-below, sole-takes}
use Rattle.bus_laws.proofs.next.the_next_lock_has_a_lower_rank.Goals as goal

pub returns : goal.returns
returns c =
    record {
      below = λ b callers asks past plain rules some steps d l next.
          takes-below b (c.an_accepted_board_is_a_tree.ensures b plain rules) plain
          (lines-locked b rules) asks some callers past steps d l next;
      sole = λ b asks past plain rules some steps.
          sole-takes b (c.an_accepted_board_is_a_tree.ensures b plain rules) plain (lines-locked b rules) asks some 1 past steps
          (omega arith);
    }
