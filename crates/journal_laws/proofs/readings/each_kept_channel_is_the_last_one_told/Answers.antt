use Rattle.journal_laws.proofs.Cited.{inl, inr, ap, mark_in, lines-locked}
use Rattle.journal_laws.proofs.past.Kept.{kept-reads}
use Rattle.journal_laws.proofs.readings.each_kept_channel_is_the_last_one_told.Goals as goal

pub returns : goal.returns
returns c =
    λ b callers asks past plain rules some steps m.
    elim (kept-reads b (c.an_accepted_board_is_a_tree.ensures b plain rules) plain (lines-locked b rules) asks some callers past steps m) [
      | inl marked ↦ inl (ap mark_in marked)
      | inr kept ↦ inr kept
    ]
