use Rattle.group_laws.proofs.Walks.{walk-in}
use Rattle.group_laws.proofs.groups.each_walk_stays_in_its_roots.Goals as goal

pub returns : goal.returns
returns c =
    λ b roots t plain rules home. walk-in b roots (c.an_accepted_board_is_a_tree.ensures b plain rules) t home
