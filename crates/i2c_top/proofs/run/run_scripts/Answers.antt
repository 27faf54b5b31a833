use Rattle.i2c_top.proofs.Cited.{◌≡◌, List, Some, ◌∙◌, ap, arith, CallerView, scripts_in, HasRunOfAny, script_row, cost_of_texts, texts_of}
use Rattle.i2c_top.proofs.Cited.{HasRun}
use Rattle.i2c_top.proofs.CoreLemmas.{if-ok}
use Rattle.i2c_top.proofs.TextLemmas.{opened-ready, opened-left, opened-scripts, report-of-texts, run-of-texts, section_by}
use Rattle.i2c_top.proofs.run.run_scripts.Goals as goal

pub run_callers-requires-clause-ready : goal.run_callers-requires-clause-ready
run_callers-requires-clause-ready g c κs within = opened-ready c.args.board.now c.args.scripts.items c.requires.opened

pub run_callers-requires-clause-covered : goal.run_callers-requires-clause-covered
run_callers-requires-clause-covered g c κs within =
    let left = opened-left c.args.board.now c.args.scripts.items c.requires.opened in
    let cost : c.limit_of-limit.result ≡ cost_of_texts c.args.board.now (texts_of c.args.scripts.items) =
    c.limit_of-limit.ensures ∙ ap (λ (ss : List CallerView). cost_of_texts c.args.board.now (texts_of ss)) c.as_slice.ensures.value in
    omega (arith, left, cost)

pub run_callers-requires-clause-cheap : goal.run_callers-requires-clause-cheap
run_callers-requires-clause-cheap g c κs within =
    let cheap = c.requires.cheap in
    let cost : c.limit_of-limit.result ≡ cost_of_texts c.args.board.now (texts_of c.args.scripts.items) =
    c.limit_of-limit.ensures ∙ ap (λ (ss : List CallerView). cost_of_texts c.args.board.now (texts_of ss)) c.as_slice.ensures.value in
    omega (arith, cheap, cost)

pub returns-clause-run : goal.returns-clause-run
returns-clause-run g c =
    λ tells tell.
    let b = c.args.board.now in
    let scripts = c.args.scripts.items in
    let rig = c.run_callers.new.rig in
    let are = opened-scripts b scripts c.requires.opened in
    if-ok (λ text. HasRunOfAny script_row.asked section_by b (scripts_in script_row scripts) c.args.words.now text (g.R.Rig.logs rig)
    (g.R.Rig.states rig) (g.R.Rig.port_faults rig))
    (λ text. HasRun b (texts_of scripts) (Some c.args.words.now) text (g.R.Rig.logs rig) (g.R.Rig.states rig) (g.R.Rig.port_faults rig))
    (λ text run. record {
      journal = run.journal;
      is_told = run.is_told ∙ report-of-texts b (texts_of scripts) (scripts_in script_row scripts) are run.journal;
      is_run = run-of-texts b (texts_of scripts) (scripts_in script_row scripts) are (g.R.Rig.logs rig) (g.R.Rig.states rig)
          (g.R.Rig.port_faults rig) run.journal run.is_run;
      ordered = run.ordered;
    })
    c.run_callers.result (c.run_callers.ensures.run tells tell)
