use Rattle.bus_laws.proofs.world.LineFacts.{lines-locked}
use Rattle.check_laws.proofs.Faults.{fail-as-told}
use Rattle.check_laws.proofs.checks.the_failed_calls_are_told.Goals as goal

pub returns : goal.returns
returns c =
    λ b callers asks past later plain rules some.
    fail-as-told b (c.an_accepted_board_is_a_tree.ensures b plain rules) plain (lines-locked b rules) asks some callers past later
