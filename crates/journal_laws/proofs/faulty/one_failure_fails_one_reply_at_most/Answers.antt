use Rattle.journal_laws.proofs.Cited.{lines-locked, failures, remotes}
use Rattle.std.specs.Prelude.{◌≤◌}
use Rattle.journal_laws.proofs.past.Remotes.{remotes-counted, remotes-faults}
use Rattle.journal_laws.proofs.past.LegalSteps.{kept-by-both}
use Rattle.journal_laws.proofs.faulty.one_failure_fails_one_reply_at_most.Goals as goal

pub returns : goal.returns
returns c =
    (let kept = kept-by-both (λ b asks past. remotes past ≤ failures past) c.an_accepted_board_is_a_tree.ensures
    (λ b tree plain lines asks some callers past steps. (remotes-counted b tree plain lines asks some callers past steps).counted) in
    record {
      stepwise = kept.0;
      faults = λ b callers asks past plain rules some.
          remotes-faults b (c.an_accepted_board_is_a_tree.ensures b plain rules) plain (lines-locked b rules) asks some callers past;
      legal = kept.1;
    })
