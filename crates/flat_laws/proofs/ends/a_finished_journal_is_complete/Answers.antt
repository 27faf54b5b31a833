use Rattle.flat_laws.proofs.Cited.{lines-locked}
use Rattle.flat_laws.proofs.past.Ends.{complete-then, outside-then}
use Rattle.flat_laws.proofs.ends.a_finished_journal_is_complete.Goals as goal

pub returns : goal.returns
returns c =
    record {
      complete = λ b callers asks past plain rules some steps.
          complete-then b (c.an_accepted_board_is_a_tree.ensures b plain rules) plain (lines-locked b rules) asks some callers past steps;
      outside = λ b callers asks past plain rules some steps.
          outside-then b (c.an_accepted_board_is_a_tree.ensures b plain rules) plain (lines-locked b rules) asks some callers past steps;
    }
