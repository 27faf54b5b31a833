use Rattle.run_laws.proofs.Cited.{ℕ, List, length, reverse, Some, sym, ◌∙◌, ap, subst, reverse-reverse, Entry, PortCall, BoardView}
use Rattle.run_laws.proofs.Cited.{made_board, scripts_of, schedule_of, TargetState, IsLegal, Follows, lines-locked, asks_by, report_by}
use Rattle.run_laws.proofs.Cited.{HasRunTold, FaultsAlike}
use Rattle.i2c_top.specs.forms.Generations.{summary_of}
use Rattle.run_laws.proofs.Asked.{messages-asked, limits-kept}
use Rattle.run_laws.proofs.Rooted.{fail-alike}
use Rattle.run_laws.proofs.Ruled.{run-complete, run-legal, run-logs}
use Rattle.run_laws.proofs.Same.{AreTwoRuns, same-come, two-runs}
use Rattle.run_laws.proofs.runs.a_replay_has_one_report.Goals as goal

pub returns : goal.returns
returns c =
    (let run = λ (told : List Entry → List ℕ) (b : BoardView) (texts : List (List ℕ)) (words x y : List ℕ)
    (logs others : List (List PortCall))
    (states ends : List TargetState) (counts rises : List ℕ) (one : HasRunTold told b texts (Some words) x logs states counts)
    (two : HasRunTold told b texts (Some words) y others ends rises) (alike : FaultsAlike logs others).
    let plain = one.is_run.plain in
    let rules = one.is_run.rules in
    let some = messages-asked c.scripts_are_fair.ensures b texts in
    let follows = λ (journal : List Entry) (kept : Follows words journal).
    subst (λ (es : List Entry). Follows words es) (sym (reverse-reverse journal)) kept in
    let asks = asks_by b texts in
    let limits = limits-kept c.scripts_are_fair.ensures b texts in
    let first_legal = run-legal b (length texts) asks logs states counts one.journal one.is_run in
    let second_legal = run-legal b (length texts) asks others ends rises two.journal two.is_run in
    let steps = λ (past : List Entry) (legal : IsLegal b (length texts) asks past).
    c.a_legal_journal_is_stepwise.ensures.stepwise b (length texts) asks past plain rules some limits legal in
    let pasts = c.a_schedule_has_one_legal_journal.ensures b (length texts) (asks_by b texts) words (reverse one.journal)
    (reverse two.journal) plain rules some limits first_legal second_legal
    (run-complete b (length texts) asks logs states counts one.journal one.is_run some limits)
    (run-complete b (length texts) asks others ends rises two.journal two.is_run some limits) (follows one.journal one.ordered)
    (follows two.journal two.ordered)
    (fail-alike b (c.an_accepted_board_is_a_tree.ensures b plain rules) plain (lines-locked b rules) (asks_by b texts) some
    (length texts) (reverse one.journal) (reverse two.journal) (steps (reverse one.journal) first_legal)
    (steps (reverse two.journal) second_legal) logs others (run-logs b (length texts) asks logs states counts one.journal one.is_run)
    (run-logs b (length texts) asks others ends rises two.journal two.is_run) alike) in
    same-come told b texts x y logs others states ends counts rises one.journal two.journal one.is_told two.is_told one.is_run two.is_run
    (sym (reverse-reverse one.journal) ∙ ap (λ (es : List Entry). reverse es) pasts ∙ reverse-reverse two.journal) in
    record {
      run = run;
      report = λ file names schedule x y logs others states ends counts rises is one two alike.
          let runs : AreTwoRuns x y logs others states ends counts rises = two-runs file names schedule x y logs others states ends
          counts rises is one two in
          run (report_by runs.board runs.texts) runs.board runs.texts runs.words x y logs others states ends counts rises runs.one
          runs.two alike;
      summary = λ plan x y logs others states ends counts rises one two alike.
          run (summary_of plan) (made_board plan.roots) (scripts_of plan) (schedule_of plan) x y logs others states ends counts rises one
          two alike;
    })
