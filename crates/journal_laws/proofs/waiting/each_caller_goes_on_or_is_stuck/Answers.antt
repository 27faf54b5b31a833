use Rattle.journal_laws.proofs.Cited.{lines-locked}
use Rattle.journal_laws.proofs.past.GoesOn.{goes-on-or-stuck, stuck-stops}
use Rattle.journal_laws.proofs.waiting.each_caller_goes_on_or_is_stuck.Goals as goal

pub returns : goal.returns
returns c =
    record {
      either = λ b callers asks past plain rules some steps none d known.
          goes-on-or-stuck b (c.an_accepted_board_is_a_tree.ensures b plain rules) plain
          (lines-locked b rules) asks some callers past steps none d known;
      never = λ b callers asks past plain rules some steps d stuck goes.
          stuck-stops b (c.an_accepted_board_is_a_tree.ensures b plain rules) plain
          (lines-locked b rules) asks some callers past steps d stuck goes;
    }
