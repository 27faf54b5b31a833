use Rattle.run_laws.proofs.Cited.{length, reverse, Some, lines-locked, asks_by, report_by, HasRun, steps_of}
use Rattle.run_laws.proofs.Asked.{messages-asked, limits-kept}
use Rattle.run_laws.proofs.Ruled.{run-legal}
use Rattle.run_laws.proofs.Steps.{own-followed, own-named}
use Rattle.run_laws.proofs.runs.a_run_is_a_replay_of_its_own_steps.Goals as goal

pub returns : goal.returns
returns c =
    λ b texts x logs states counts run.
    let plain = run.is_run.plain in
    let rules = run.is_run.rules in
    let some = messages-asked c.scripts_are_fair.ensures b texts in
    let legal = run-legal b (length texts) (asks_by b texts) logs states counts run.journal run.is_run in
    let none = c.a_legal_journal_is_stepwise.ensures.settled b (length texts) (asks_by b texts) (reverse run.journal) plain rules some
    (limits-kept c.scripts_are_fair.ensures b texts) legal in
    let steps = c.a_legal_journal_is_stepwise.ensures.stepwise b (length texts) (asks_by b texts) (reverse run.journal) plain rules some
    (limits-kept c.scripts_are_fair.ensures b texts) legal in
    let tree = c.an_accepted_board_is_a_tree.ensures b plain rules in
    let replay : HasRun b texts (Some (steps_of run.journal)) x logs states counts = record {
      journal = run.journal;
      is_told = run.is_told;
      is_run = run.is_run;
      ordered = own-followed b tree plain (lines-locked b rules) (asks_by b texts) some (length texts) run.journal steps none;
    } in
    record {
      named = own-named b tree plain (lines-locked b rules) (asks_by b texts) some (length texts) run.journal steps none;
      run = replay;
      only = λ other_bytes others ends other_counts other alike.
          c.a_replay_has_one_report.ensures.run (report_by b texts) b texts
          (steps_of run.journal) x other_bytes logs others states ends counts
          other_counts replay other alike;
    }
