use Rattle.flat_laws.proofs.Cited.{lines-locked}
use Rattle.flat_laws.proofs.past.Through.{walk-ended}
use Rattle.flat_laws.proofs.ends.a_caller_that_holds_nothing_has_no_walk.Goals as goal

pub returns : goal.returns
returns c =
    λ b callers asks past plain rules some steps.
    walk-ended b (c.an_accepted_board_is_a_tree.ensures b plain rules) plain (lines-locked b rules) asks some callers past steps
