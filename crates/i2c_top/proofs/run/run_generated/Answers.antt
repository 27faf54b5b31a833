use Rattle.i2c_top.proofs.Cited.{◌≡◌, List, Some, sym, ◌∙◌, ap, subst, IfOk, BoardView, CallerView, IsLeftOf, AreOpened, script_row}
use Rattle.i2c_top.proofs.Cited.{cost_of_texts, texts_of, HasRunTold, summary_of}
use Rattle.i2c_top.proofs.TextLemmas.{may-run-scripts}
use Rattle.i2c_top.proofs.run.run_generated.Goals as goal

pub followed-ran-requires-clause-may : goal.followed-ran-requires-clause-may
followed-ran-requires-clause-may g c κs within =
    let b = c.args.board.now in
    let cost : c.limit_of-limit.result ≡ cost_of_texts b (texts_of c.args.scripts.items) =
    c.limit_of-limit.ensures ∙ ap (λ (ss : List CallerView). cost_of_texts b (texts_of ss)) c.as_slice.ensures.value in
    may-run-scripts g.R.P.Port b c.args.scripts.items c.requires.opened c.in_ok-ports.ports.items c.limit_of-limit.result cost
    c.scripts_are_fair.ensures c.requires.few c.requires.cheap c.in_ok-ports.ensures.fresh

pub returns-clause-run : goal.returns-clause-run
returns-clause-run g c =
    λ tells tell.
    let scripts = c.args.scripts.items in
    let ports = c.in_ok-ports.ports.items in
    let same : g.R.Rig.board_of c.plugged.new.rig ≡ c.args.board.now = c.in_ok-ports.ensures.board.1 in
    subst (λ (b : BoardView). IfOk c.summed.result (λ text. HasRunTold (summary_of c.args.plan.now) b (texts_of scripts)
    (Some c.args.words.now) text
    (g.R.Rig.logs c.summed.new.rig)
    (g.R.Rig.states c.summed.new.rig) (g.R.Rig.port_faults c.summed.new.rig))) same
    (c.summed.ensures.run tells tell scripts ports c.args.words.now
    (subst (λ (b : BoardView). AreOpened b scripts) (sym same) c.requires.opened)
    (subst (λ (b : BoardView). IfOk c.followed-ran.result (IsLeftOf g.R.P.Port script_row b scripts ports))
    (sym same) c.followed-ran.ensures.left)
    (c.followed-ran.ensures.follows tell))
