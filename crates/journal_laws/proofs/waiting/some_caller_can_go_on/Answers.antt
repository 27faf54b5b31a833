use Rattle.journal_laws.proofs.Cited.{lines-locked}
use Rattle.journal_laws.proofs.past.GoesOn.{some-can-go-on}
use Rattle.journal_laws.proofs.waiting.some_caller_can_go_on.Goals as goal

pub returns : goal.returns
returns c =
    λ b callers asks past plain rules some steps.
    some-can-go-on b (c.an_accepted_board_is_a_tree.ensures b plain rules) plain (lines-locked b rules) asks some callers past steps
