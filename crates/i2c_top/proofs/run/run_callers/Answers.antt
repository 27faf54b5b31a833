use Rattle.i2c_top.proofs.Cited.{◌≡◌, ℕ, List, length, map, sym, subst, IfOk, BoardView, one_of, Follows, asks_in, printed_in, scripts_in, HasRunBy}
use Rattle.i2c_top.proofs.Cited.{HasRunOfAny, HaveJournal, IsLeftOf}
use Rattle.i2c_top.proofs.CoreLemmas.{if-ok, of-journal}
use Rattle.i2c_top.proofs.run.run_callers.Goals as goal

pub finished-ran-requires-clause-may : goal.finished-ran-requires-clause-may
finished-ran-requires-clause-may g c κs within =
    record {
      ready = c.requires.ready;
      fair = c.requires.fair;
      few = c.requires.few;
      covered = c.requires.covered;
      cheap = c.requires.cheap;
      fresh = c.in_ok-ports.ensures.fresh;
    }

pub returns-clause-run : goal.returns-clause-run
returns-clause-run g c =
    λ tells tell.
    let callers = c.args.callers.items in
    let ports = c.in_ok-ports.ports.items in
    let scripts = scripts_in g.C.Caller callers in
    let ran = c.finished-ran.result in
    let rig = c.report_of_run.new.rig in
    let same : g.R.Rig.board_of c.plugged.new.rig ≡ c.args.board.now = c.in_ok-ports.ensures.board.1 in
    subst (λ (b : BoardView). IfOk c.report_of_run.result (λ text. HasRunOfAny g.C.Caller.asked g.C.Printer.printed b scripts
    c.args.words.now text
    (g.R.Rig.logs rig) (g.R.Rig.states rig) (g.R.Rig.port_faults rig))) same
    (if-ok (λ text. HasRunBy (g.R.Rig.board_of c.plugged.new.rig) (length scripts) (asks_in g.C.Caller.asked scripts)
    (printed_in g.C.Printer.printed scripts) (HaveJournal ran) text (g.R.Rig.logs rig) (g.R.Rig.states rig) (g.R.Rig.port_faults rig))
    (λ text. HasRunOfAny g.C.Caller.asked g.C.Printer.printed (g.R.Rig.board_of c.plugged.new.rig) scripts c.args.words.now text
    (g.R.Rig.logs rig) (g.R.Rig.states rig) (g.R.Rig.port_faults rig))
    (λ text run. record {
      journal = run.journal;
      is_told = run.is_told;
      is_run = run.is_run;
      ordered = of-journal (Follows c.args.words.now) ran (c.finished-ran.ensures.follows tell) run.journal run.ordered;
    })
    c.report_of_run.result
    (c.report_of_run.ensures.run tells tell callers ports
    (subst (λ (b : BoardView). IfOk ran (λ x. IsLeftOf g.R.P.Port g.C.Caller b callers ports (one_of x)))
    (sym same) c.finished-ran.ensures.left)))

pub returns-clause-returned : goal.returns-clause-returned
returns-clause-returned g c =
    λ tells.
    c.report_of_run.ensures.returned tells (g.R.Rig.setups c.args.rig.now c.args.board.now)
    (subst (λ (ss : List (List ℕ)). IfOk c.finished-ran.result (λ x. map (λ p. g.R.P.Port.setup p.1) x.ports.items ≡ ss))
    (c.in_ok-ports.ensures.setups tells) c.finished-ran.ensures.setups)
