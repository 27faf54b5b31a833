use Rattle.bus_laws.proofs.walk.Jobs.{walk-stays}
use Rattle.bus_laws.proofs.walks.each_walk_stays_on_its_root.Goals as goal

pub returns : goal.returns
returns c =
    λ b t plain rules. walk-stays b (c.an_accepted_board_is_a_tree.ensures b plain rules) t
