use Rattle.journal_laws.proofs.past.Spent.{caller-spends}
use Rattle.journal_laws.proofs.costs.no_caller_exceeds_its_cost.Goals as goal

pub returns : goal.returns
returns c = λ b callers asks past plain rules some steps d. caller-spends b
    (c.an_accepted_board_is_a_tree.ensures b plain rules) rules asks some callers past steps d
