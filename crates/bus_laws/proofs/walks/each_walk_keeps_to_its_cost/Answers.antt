use Rattle.bus_laws.proofs.walk.CostLaw.{walk-within}
use Rattle.bus_laws.proofs.walks.each_walk_keeps_to_its_cost.Goals as goal

pub returns : goal.returns
returns c =
    λ b t plain rules some. walk-within b (c.an_accepted_board_is_a_tree.ensures b plain rules) rules t some
