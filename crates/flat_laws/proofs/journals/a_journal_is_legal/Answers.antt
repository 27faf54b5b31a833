use Rattle.flat_laws.proofs.Cited.{lines-locked}
use Rattle.flat_laws.proofs.past.Legal.{legal-with}
use Rattle.flat_laws.proofs.device.Law.{replies-kept}
use Rattle.flat_laws.proofs.journals.a_journal_is_legal.Goals as goal

pub returns : goal.returns
returns c =
    λ b callers asks past plain rules some limits steps none_due.
    legal-with b (c.an_accepted_board_is_a_tree.ensures b plain rules) plain (lines-locked b rules) asks some callers past steps none_due
    (replies-kept b (c.an_accepted_board_is_a_tree.ensures b plain rules) plain (lines-locked b rules) asks some limits callers past steps)
