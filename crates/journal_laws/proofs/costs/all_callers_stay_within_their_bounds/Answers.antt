use Rattle.journal_laws.proofs.past.Together.{bound-spends, together-spend}
use Rattle.journal_laws.proofs.costs.all_callers_stay_within_their_bounds.Goals as goal

pub returns : goal.returns
returns c =
    record {
      each = λ b callers asks past plain rules some steps d left covers. bound-spends b
          (c.an_accepted_board_is_a_tree.ensures b plain rules) rules asks some callers past steps d left covers;
      together = λ b callers asks past plain rules some steps left covers. together-spend b
          (c.an_accepted_board_is_a_tree.ensures b plain rules) rules asks some callers past steps left covers;
    }
