use Rattle.journal_check.proofs.AnswerLemmas.{one-count, no-fault, one-fault}
use Rattle.journal_check.proofs.laws.a_report_has_one_answer.Goals as goal

pub returns : goal.returns
returns c =
    record {
      counted = λ x text n m can v w.
          one-count x can (λ later next past. c.each_prefix_of_a_legal_journal_is_legal.ensures x.board x.callers x.asks later next past
          can.plain can.rules can.some can.limits) text n m v w;
      faultless = λ x text n f can v at.
          no-fault x can (λ later next past. c.each_prefix_of_a_legal_journal_is_legal.ensures x.board x.callers x.asks later next past
          can.plain can.rules can.some can.limits) text n f v at;
      fault = λ x text f g can a b.
          one-fault x can (λ later next past. c.each_prefix_of_a_legal_journal_is_legal.ensures x.board x.callers x.asks later next past
          can.plain can.rules can.some can.limits) text f g a b;
    }
