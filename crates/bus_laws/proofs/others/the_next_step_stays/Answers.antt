use Rattle.bus_laws.proofs.Cited.{now}
use Rattle.bus_laws.proofs.world.LineFacts.{lines-locked}
use Rattle.bus_laws.proofs.past.Laws.{past-stands}
use Rattle.bus_laws.proofs.past.Stays.{next-stays}
use Rattle.bus_laws.proofs.others.the_next_step_stays.Goals as goal

pub returns : goal.returns
returns c =
    λ b callers asks past e plain rules some steps d other.
    next-stays b (c.an_accepted_board_is_a_tree.ensures b plain rules) (lines-locked b rules) asks some (now b asks past)
    (past-stands b (c.an_accepted_board_is_a_tree.ensures b plain rules) plain (lines-locked b rules) asks some callers past steps.1)
    callers e steps.0 d other
