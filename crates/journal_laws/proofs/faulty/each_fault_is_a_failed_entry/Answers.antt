use Rattle.journal_laws.proofs.Cited.{calls_of, faults_in, failed_on}
use Rattle.std.specs.Prelude.{◌≡◌, ℕ}
use Rattle.journal_laws.proofs.past.Counts.{counts-kept}
use Rattle.journal_laws.proofs.past.LegalSteps.{kept-by-both}
use Rattle.journal_laws.proofs.faulty.each_fault_is_a_failed_entry.Goals as goal

pub returns : goal.returns
returns c =
    (let kept = kept-by-both (λ b asks past. (r : ℕ) → faults_in (calls_of b asks past r) ≡ failed_on b r past)
    c.an_accepted_board_is_a_tree.ensures counts-kept in
    record { stepwise = kept.0; legal = kept.1 })
