use Rattle.bus_laws.proofs.world.LineFacts.{lines-locked}
use Rattle.bus_laws.proofs.past.Laws.{locks-kept}
use Rattle.bus_laws.proofs.journals.each_journal_keeps_its_locks.Goals as goal

pub returns : goal.returns
returns c =
    λ b callers asks past plain rules some steps.
    locks-kept b (c.an_accepted_board_is_a_tree.ensures b plain rules) plain (lines-locked b rules) asks some callers past steps
