use Rattle.journal_laws.proofs.Cited.{List, [], reverse, ap, arith, Entry, report_of, lines-locked}
use Rattle.journal_laws.proofs.schedule.Unique.{sole-journal, alone-follows}
use Rattle.journal_laws.proofs.unique.a_caller_alone_has_one_journal.Goals as goal

pub returns : goal.returns
returns c =
    record {
      follows = λ b asks words past plain rules some steps complete.
          alone-follows b (c.an_accepted_board_is_a_tree.ensures b plain rules) plain (lines-locked b rules) asks some 1
          (omega arith) words past steps complete;
      same = λ b asks past other plain rules some steps1 steps2 complete1 complete2 alike.
          sole-journal b (c.an_accepted_board_is_a_tree.ensures b plain rules) plain
          (lines-locked b rules) asks some 1 [] past other steps1 steps2 complete1 complete2
          (alone-follows b (c.an_accepted_board_is_a_tree.ensures b plain rules) plain (lines-locked b rules) asks some 1
          (omega arith) [] past steps1 complete1)
          (alone-follows b (c.an_accepted_board_is_a_tree.ensures b plain rules) plain (lines-locked b rules) asks some 1
          (omega arith) [] other steps2 complete2) alike;
      printed = λ b asks past other plain rules some steps1 steps2 complete1 complete2 alike printed.
          ap (λ (es : List Entry). report_of printed 1 (reverse es))
          (sole-journal b (c.an_accepted_board_is_a_tree.ensures b plain rules) plain
          (lines-locked b rules) asks some 1 [] past other steps1 steps2 complete1 complete2
          (alone-follows b (c.an_accepted_board_is_a_tree.ensures b plain rules) plain (lines-locked b rules) asks some 1
          (omega arith) [] past steps1 complete1)
          (alone-follows b (c.an_accepted_board_is_a_tree.ensures b plain rules) plain (lines-locked b rules) asks some 1
          (omega arith) [] other steps2 complete2) alike);
    }
