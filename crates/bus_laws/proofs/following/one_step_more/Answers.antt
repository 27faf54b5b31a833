use Rattle.bus_laws.proofs.world.LineFacts.{lines-locked}
use Rattle.bus_laws.proofs.schedule.Turns.{turns-more}
use Rattle.bus_laws.proofs.following.one_step_more.Goals as goal

pub returns : goal.returns
returns c =
    λ b callers asks past plain rules some steps none t is.
    turns-more b (c.an_accepted_board_is_a_tree.ensures b plain rules) plain (lines-locked b rules) asks some callers past steps none t is
