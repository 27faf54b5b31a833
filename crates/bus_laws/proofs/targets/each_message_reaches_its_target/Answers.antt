use Rattle.bus_laws.proofs.world.LineFacts.{lines-locked}
use Rattle.bus_laws.proofs.past.Asked.{reach-kept}
use Rattle.bus_laws.proofs.targets.each_message_reaches_its_target.Goals as goal

pub returns : goal.returns
returns c =
    λ b callers asks past plain rules some steps.
    reach-kept b (c.an_accepted_board_is_a_tree.ensures b plain rules) plain (lines-locked b rules) asks some callers past steps
