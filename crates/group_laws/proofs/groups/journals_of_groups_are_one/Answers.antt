use Rattle.group_laws.proofs.Joins.{are-joined}
use Rattle.group_laws.proofs.groups.journals_of_groups_are_one.Goals as goal

pub returns : goal.returns
returns c =
    λ b callers all parts plain rules are apart. are-joined b (c.an_accepted_board_is_a_tree.ensures b plain rules) callers all parts are
    apart
