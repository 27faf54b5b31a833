use Rattle.run_laws.proofs.Cited.{ℕ, List, Option, length, refl, AsksForMessages, AsksWithinLimits, BoardView, PortCall, TargetState}
use Rattle.run_laws.proofs.Cited.{asks_by, HasRun, texts_in}
use Rattle.i2c_top.specs.Checked.{checked_on}
use Rattle.journal_check.specs.Faults.{IsVerified}
use Rattle.run_laws.proofs.Asked.{limits-kept, messages-asked}
use Rattle.run_laws.proofs.Ruled.{run-complete, run-legal}
use Rattle.run_laws.proofs.runs.what_a_run_reports_is_verified.Goals as goal

-- the journal of a run is one of which its report is the text
verified : (b : BoardView) (texts : List (List ℕ)) → AsksForMessages (asks_by b texts) → AsksWithinLimits (asks_by b texts)
    → (words : Option (List ℕ)) (x : List ℕ)
    (logs : List (List PortCall)) (states : List TargetState) (counts : List ℕ) (run : HasRun b texts words x logs states counts)
    → IsVerified (checked_on b texts) x (length run.journal)
verified b texts some limits words x logs states counts run = record {
  journal = run.journal;
  in_range = run.is_run.in_range;
  legal = run-legal b (length texts) (asks_by b texts) logs states counts run.journal run.is_run;
  complete = run-complete b (length texts) (asks_by b texts) logs states counts run.journal run.is_run some limits;
  report = run.is_told;
  counted = refl;
}

pub returns-clause-run : goal.returns-clause-run
returns-clause-run c = λ b texts. verified b texts (messages-asked c.scripts_are_fair.ensures b texts)
    (limits-kept c.scripts_are_fair.ensures b texts)

pub returns-clause-report : goal.returns-clause-report
returns-clause-report c = λ file names journal x logs states counts report there. record {
  has = record {
    files = record {
      board = report.files.texts.board;
      scripts = report.files.texts.scripts;
      text = x;
      there = there;
    };
    plain = report.run.is_run.plain;
    cheap = report.files.cheap;
  };
  verified = verified report.files.texts.board.board (texts_in file names.scripts)
      (messages-asked c.scripts_are_fair.ensures report.files.texts.board.board (texts_in file names.scripts))
      (limits-kept c.scripts_are_fair.ensures report.files.texts.board.board (texts_in file names.scripts)) _ x logs states counts
      report.run;
}
