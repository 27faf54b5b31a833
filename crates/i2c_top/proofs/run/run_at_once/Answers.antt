use Rattle.i2c_top.proofs.Cited.{◌≡◌, None, length, sym, ◌∙◌, subst, IfOk, BoardView, one_of, asked_by, asks_in, printed_in, scripts_in}
use Rattle.i2c_top.proofs.Cited.{HasRunBy, HaveJournal, IsLeftOf, script_row, texts_of, HasRun, IsOfGroups}
use Rattle.i2c_top.proofs.CoreLemmas.{if-ok, of-journal}
use Rattle.i2c_top.proofs.TextLemmas.{opened-scripts, report-of-texts, run-of-texts, section_by}
use Rattle.i2c_top.proofs.run.run_at_once.Goals as goal

pub returns-clause-run : goal.returns-clause-run
returns-clause-run g c =
    λ tells tell.
    let b = c.args.board.now in
    let scripts = c.args.scripts.items in
    let ports = c.in_ok-ports.ports.items in
    let ran = c.run_threads-ran.result in
    let rig = c.report_of_run.new.rig in
    let are = opened-scripts b scripts c.requires.opened in
    let same : g.R.Rig.board_of c.plugged.new.rig ≡ b = c.in_ok-ports.ensures.board.1 in
    if-ok (λ text. HasRunBy b (length (scripts_in script_row scripts)) (asks_in asked_by (scripts_in script_row scripts))
    (printed_in section_by (scripts_in script_row scripts)) (HaveJournal ran) text (g.R.Rig.logs rig) (g.R.Rig.states rig)
    (g.R.Rig.port_faults rig))
    (λ text. HasRun b (texts_of scripts) None text (g.R.Rig.logs rig) (g.R.Rig.states rig) (g.R.Rig.port_faults rig))
    (λ text run. record {
      journal = run.journal;
      is_told = run.is_told ∙ report-of-texts b (texts_of scripts) (scripts_in script_row scripts) are run.journal;
      is_run = run-of-texts b (texts_of scripts) (scripts_in script_row scripts) are (g.R.Rig.logs rig) (g.R.Rig.states rig)
          (g.R.Rig.port_faults rig) run.journal run.is_run;
      ordered = of-journal (IsOfGroups b (texts_of scripts)) ran (c.run_threads-ran.ensures.groups tell) run.journal run.ordered;
    })
    c.report_of_run.result
    (subst (λ (k : BoardView). IfOk c.report_of_run.result (λ text. HasRunBy k (length (scripts_in script_row scripts))
    (asks_in asked_by (scripts_in script_row scripts)) (printed_in section_by (scripts_in script_row scripts)) (HaveJournal ran) text
    (g.R.Rig.logs rig) (g.R.Rig.states rig) (g.R.Rig.port_faults rig))) same
    (c.report_of_run.ensures.run tells tell scripts ports
    (subst (λ (k : BoardView). IfOk ran (λ x. IsLeftOf g.R.P.Port script_row k scripts ports (one_of x)))
    (sym same) c.run_threads-ran.ensures.left)))
