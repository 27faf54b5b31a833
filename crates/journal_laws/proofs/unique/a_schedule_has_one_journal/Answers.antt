use Rattle.journal_laws.proofs.Cited.{List, reverse, ap, Entry, report_of, lines-locked}
use Rattle.journal_laws.proofs.schedule.Unique.{sole-journal}
use Rattle.journal_laws.proofs.unique.a_schedule_has_one_journal.Goals as goal

pub returns : goal.returns
returns c =
    record {
      same = λ b callers asks words past other plain rules some steps1 steps2 complete1 complete2 follows1 follows2 alike.
          sole-journal b (c.an_accepted_board_is_a_tree.ensures b plain rules) plain
          (lines-locked b rules) asks some callers words past other steps1 steps2 complete1 complete2 follows1 follows2 alike;
      printed = λ b callers asks words past other plain rules some steps1 steps2 complete1 complete2 follows1 follows2 alike printed.
          ap (λ (es : List Entry). report_of printed callers (reverse es))
          (sole-journal b (c.an_accepted_board_is_a_tree.ensures b plain rules) plain
          (lines-locked b rules) asks some callers words past other steps1 steps2 complete1 complete2 follows1 follows2 alike);
    }
