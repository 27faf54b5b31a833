use Rattle.journal_laws.proofs.past.Spent.{walk-spends}
use Rattle.journal_laws.proofs.costs.no_transfer_exceeds_its_cost.Goals as goal

pub returns : goal.returns
returns c = λ b callers asks past plain rules some steps d t is. walk-spends b
    (c.an_accepted_board_is_a_tree.ensures b plain rules) rules asks some callers past steps d t is
