use Rattle.journal_laws.proofs.Cited.{lines-locked}
use Rattle.journal_laws.proofs.past.LegalSteps.{legal-steps, legal-due}
use Rattle.journal_laws.proofs.layers.a_legal_journal_is_stepwise.Goals as goal

pub returns : goal.returns
returns c =
    record {
      stepwise = λ b callers asks past plain rules some limits.
          legal-steps b (c.an_accepted_board_is_a_tree.ensures b plain rules) plain (lines-locked b rules) asks some limits callers past;
      settled = λ b callers asks past plain rules some limits.
          legal-due b (c.an_accepted_board_is_a_tree.ensures b plain rules) plain (lines-locked b rules) asks some limits callers past;
    }
