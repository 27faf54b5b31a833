use Rattle.flat_laws.proofs.Cited.{lines-locked}
use Rattle.flat_laws.proofs.past.Ends.{holds-nothing, holder-known}
use Rattle.flat_laws.proofs.ends.a_caller_with_no_walk_holds_nothing.Goals as goal

pub returns : goal.returns
returns c =
    record {
      nothing = λ b callers asks past plain rules some steps.
          holds-nothing b (c.an_accepted_board_is_a_tree.ensures b plain rules) plain (lines-locked b rules) asks some callers past steps;
      known = λ b callers asks past plain rules some steps.
          holder-known b (c.an_accepted_board_is_a_tree.ensures b plain rules) plain (lines-locked b rules) asks some callers past steps;
    }
