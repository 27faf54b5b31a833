use Rattle.bus_laws.proofs.world.LineFacts.{lines-locked}
use Rattle.bus_laws.proofs.past.Next.{control-switches}
use Rattle.bus_laws.proofs.next.the_next_control_message_reaches_its_mux.Goals as goal

pub returns : goal.returns
returns c =
    λ b callers asks past plain rules some steps d job left m is next.
    control-switches b (c.an_accepted_board_is_a_tree.ensures b plain rules) plain
    (lines-locked b rules) asks some callers past steps d job left m is next
