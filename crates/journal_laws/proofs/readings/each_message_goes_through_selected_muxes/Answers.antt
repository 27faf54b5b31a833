use Rattle.journal_laws.proofs.Cited.{lines-locked}
use Rattle.journal_laws.proofs.past.Selected.{goes-through}
use Rattle.journal_laws.proofs.readings.each_message_goes_through_selected_muxes.Goals as goal

pub returns : goal.returns
returns c =
    λ b callers asks past plain rules some steps.
    goes-through b (c.an_accepted_board_is_a_tree.ensures b plain rules) plain (lines-locked b rules) asks some callers past steps
