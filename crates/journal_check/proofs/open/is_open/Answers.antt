use Rattle.journal_check.proofs.Cited.{◌≡◌, true, false}
use Rattle.journal_check.proofs.OverLemmas.{stepped-not_over, waiting-not_over, not-finished}
use Rattle.journal_check.proofs.open.is_open.Goals as goal

pub returns-in_default : goal.returns-in_default
returns-in_default g c =
    record {
      yes = λ _ over.
          not-finished c.step.result c.in_default.not-Finished
          (λ is. stepped-not_over g.C.Caller.asked c.args.core.now c.args.caller c.step.new.self.journal.entries
          ((c.step.ensures.stepped is).turn c.requires.tells) over)
          (λ l h is. waiting-not_over g.C.Caller.asked c.args.core.now c.args.caller g.P.Port.tells c.requires.tells l h
          (c.step.ensures.blocked l h is).1 over);
      no = λ is. absurd (let f : true ≡ false = is in cc);
    }
