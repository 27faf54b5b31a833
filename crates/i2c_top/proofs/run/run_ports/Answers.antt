use Rattle.i2c_top.proofs.Cited.{◌≡◌, List, map, ◌∙◌, ap, CallerView, Follows, scripts_in}
use Rattle.i2c_top.proofs.Cited.{script_row, cost_of_texts, texts_of, devices_of}
use Rattle.i2c_top.proofs.CoreLemmas.{if-ok, of-journal}
use Rattle.i2c_top.proofs.TextLemmas.{may-run-scripts, opened-scripts, report-of-texts, run-of-texts}
use Rattle.i2c_top.proofs.run.run_ports.Goals as goal

pub finished-ran-requires-clause-may : goal.finished-ran-requires-clause-may
finished-ran-requires-clause-may g c κs within =
    let b = c.args.board.now in
    let cost : c.limit_of-limit.result ≡ cost_of_texts b (texts_of c.args.scripts.items) =
    c.limit_of-limit.ensures ∙ ap (λ (ss : List CallerView). cost_of_texts b (texts_of ss)) c.as_slice.ensures.value in
    may-run-scripts g.P.Port b c.args.scripts.items c.requires.opened c.args.ports.items c.limit_of-limit.result cost
    c.scripts_are_fair.ensures c.requires.few c.requires.cheap c.requires.fresh

pub returns-clause-run : goal.returns-clause-run
returns-clause-run g c =
    λ tell.
    let b = c.args.board.now in
    let scripts = c.args.scripts.items in
    let port = g.P.Port in
    let ran = c.finished-ran.result in
    let ports = c.left_of_run.result.ports.items in
    let are = opened-scripts b scripts c.requires.opened in
    if-ok _ _
    (λ text over. record {
      worlds = over.worlds;
      by = record {
        journal = over.by.journal;
        is_told = over.by.is_told ∙ report-of-texts b (texts_of scripts) (scripts_in script_row scripts) are over.by.journal;
        is_run = run-of-texts b (texts_of scripts) (scripts_in script_row scripts) are (map port.log ports)
            (devices_of b (map port.world ports)) (map port.faults ports) over.by.journal over.by.is_run;
        ordered = of-journal (Follows c.args.words.now) ran (c.finished-ran.ensures.follows tell) over.by.journal over.by.ordered;
      };
    })
    c.left_of_run.result.report
    (c.left_of_run.ensures.run tell b scripts c.args.ports.items c.finished-ran.ensures.left)
