use Rattle.journal_laws.proofs.Cited.{lines-locked, complete-through}
use Rattle.flat_laws.proofs.past.Through.{through-complete}
use Rattle.journal_laws.proofs.past.Complete.{complete-legal, complete-ruled}
use Rattle.journal_laws.proofs.paths.a_journal_is_complete_by_its_entries_alone.Goals as goal

pub returns : goal.returns
returns c =
    let trees = c.an_accepted_board_is_a_tree.ensures in
    record {
      ruled = λ b callers asks past plain rules some limits ruled. (
        λ complete. through-complete b callers asks past complete,
        complete-ruled b (trees b plain rules) plain (lines-locked b rules) asks some limits callers past ruled,
      );
      legal = λ b callers asks past plain rules some limits legal. (
        λ complete. through-complete b callers asks past complete,
        complete-legal b (trees b plain rules) plain (lines-locked b rules) asks some limits callers past legal,
      );
      stepwise = λ b callers asks past plain rules some steps. (
        λ complete. through-complete b callers asks past complete,
        complete-through b (trees b plain rules) plain (lines-locked b rules) asks some callers past steps,
      );
    }
