use Rattle.flat_laws.proofs.Cited.{lines-locked}
use Rattle.flat_laws.proofs.device.Law.{replies-kept}
use Rattle.flat_laws.proofs.journals.each_reply_is_that_of_the_flat_world.Goals as goal

pub returns : goal.returns
returns c =
    λ b callers asks past plain rules some limits steps.
    replies-kept b (c.an_accepted_board_is_a_tree.ensures b plain rules) plain (lines-locked b rules) asks some limits callers past steps
