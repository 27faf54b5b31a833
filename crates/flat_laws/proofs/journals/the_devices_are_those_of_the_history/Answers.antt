use Rattle.flat_laws.proofs.Cited.{lines-locked}
use Rattle.flat_laws.proofs.past.Left.{devices-kept}
use Rattle.flat_laws.proofs.journals.the_devices_are_those_of_the_history.Goals as goal

pub returns : goal.returns
returns c =
    λ b callers asks past plain rules some limits steps none_due.
    devices-kept b (c.an_accepted_board_is_a_tree.ensures b plain rules) plain
    (lines-locked b rules) asks some limits callers past steps none_due
