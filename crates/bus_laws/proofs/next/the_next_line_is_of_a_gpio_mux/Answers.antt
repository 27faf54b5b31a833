use Rattle.bus_laws.proofs.Cited.{now}
use Rattle.bus_laws.proofs.world.LineFacts.{lines-locked}
use Rattle.bus_laws.proofs.past.Laws.{past-stands}
use Rattle.bus_laws.proofs.past.NextLine.{next-line}
use Rattle.bus_laws.proofs.next.the_next_line_is_of_a_gpio_mux.Goals as goal

pub returns : goal.returns
returns c =
    λ b callers asks past plain rules some steps d job next.
    next-line b (c.an_accepted_board_is_a_tree.ensures b plain rules) (lines-locked b rules) asks some (now b asks past)
    (past-stands b (c.an_accepted_board_is_a_tree.ensures b plain rules) plain (lines-locked b rules) asks some callers past steps) d job
    next
