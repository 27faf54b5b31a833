use Rattle.bus_laws.proofs.world.LineFacts.{lines-locked}
use Rattle.bus_laws.proofs.past.Closed.{closed-kept}
use Rattle.bus_laws.proofs.journals.each_mux_keeps_its_channel_or_is_marked.Goals as goal

pub returns : goal.returns
returns c =
    λ b callers asks past plain rules some steps.
    closed-kept b (c.an_accepted_board_is_a_tree.ensures b plain rules) plain (lines-locked b rules) asks some callers past steps
