use Rattle.journal_laws.proofs.Cited.{lines-locked}
use Rattle.journal_laws.proofs.past.LegalSteps.{front-legal}
use Rattle.journal_laws.proofs.layers.each_prefix_of_a_legal_journal_is_legal.Goals as goal

pub returns : goal.returns
returns c =
    λ b callers asks later next past plain rules some limits.
    front-legal b (c.an_accepted_board_is_a_tree.ensures b plain rules) plain
    (lines-locked b rules) asks some limits callers later next past
