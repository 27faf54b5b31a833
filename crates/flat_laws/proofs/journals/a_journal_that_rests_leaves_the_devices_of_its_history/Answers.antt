use Rattle.flat_laws.proofs.Cited.{lines-locked}
use Rattle.flat_laws.proofs.past.Left.{devices-left}
use Rattle.flat_laws.proofs.journals.a_journal_that_rests_leaves_the_devices_of_its_history.Goals as goal

pub returns : goal.returns
returns c =
    λ b callers asks past plain rules some limits steps rests.
    devices-left b (c.an_accepted_board_is_a_tree.ensures b plain rules) plain
    (lines-locked b rules) asks some limits callers past steps rests
