use Rattle.group_laws.proofs.Goes.{goes-on}
use Rattle.group_laws.proofs.groups.a_group_goes_on_by_itself.Goals as goal

pub returns : goal.returns
returns c =
    λ b callers all own roots who before mine plain rules group fresh due steps own_steps.
    goes-on b (c.an_accepted_board_is_a_tree.ensures b plain rules) callers all own roots who group before steps due fresh mine own_steps
