use Rattle.bus_laws.proofs.world.LineFacts.{lines-locked}
use Rattle.check_laws.proofs.Firsts.{first-wrong, fewer-wrong}
use Rattle.check_laws.proofs.checks.where_a_step_differs_a_journal_is_wrong.Goals as goal

pub returns : goal.returns
returns c =
    record {
      wrong = λ b callers asks front next rest plain rules some limits steps none cant.
          first-wrong b (c.an_accepted_board_is_a_tree.ensures b plain rules) plain
          (lines-locked b rules) asks some limits callers front next
          rest steps none cant;
      fewer = λ b callers fewer asks es i plain rules some limits low silent first.
          fewer-wrong b (c.an_accepted_board_is_a_tree.ensures b plain rules) plain
          (lines-locked b rules) asks some limits callers fewer low
          silent es i first;
    }
