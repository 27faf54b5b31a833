use Rattle.journal_laws.proofs.Cited.{KeepsCuts}
use Rattle.journal_laws.proofs.past.Cuts.{cuts-kept}
use Rattle.journal_laws.proofs.past.LegalSteps.{kept-by-both}
use Rattle.journal_laws.proofs.faulty.a_cut_is_of_a_step_on_the_way.Goals as goal

pub returns : goal.returns
returns c =
    (let kept = kept-by-both KeepsCuts c.an_accepted_board_is_a_tree.ensures cuts-kept in
    record { stepwise = kept.0; legal = kept.1 })
