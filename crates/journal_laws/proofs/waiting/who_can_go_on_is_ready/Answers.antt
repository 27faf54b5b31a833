use Rattle.journal_laws.proofs.Cited.{lines-locked}
use Rattle.journal_laws.proofs.schedule.Unique.{ready-exact}
use Rattle.journal_laws.proofs.waiting.who_can_go_on_is_ready.Goals as goal

pub returns : goal.returns
returns c =
    λ b callers asks past plain rules some steps none later comes end d low.
    ready-exact b (c.an_accepted_board_is_a_tree.ensures b plain rules) plain
    (lines-locked b rules) asks some callers past steps none later comes end d low
