use Rattle.i2c_top.proofs.Cited.{length, ◌∙◌, asks_in, printed_in, scripts_in}
use Rattle.i2c_top.proofs.Cited.{HasRunBy, HaveJournal}
use Rattle.i2c_top.proofs.CoreLemmas.{if-ok, on-ok-then, run-given-back}
use Rattle.i2c_top.proofs.run.report_of_run.Goals as goal

pub returns-clause-run : goal.returns-clause-run
returns-clause-run g c =
    λ tells tell callers ports kept.
    let b = g.R.Rig.board_of c.args.rig.now in
    let scripts = scripts_in g.C.Caller callers in
    let rig = c.unplug.new.self in
    if-ok _ _
    (λ text over. run-given-back g.R.P.Port b c.left_of_run-ports.result.ports.items
    (HasRunBy b (length scripts) (asks_in g.C.Caller.asked scripts) (printed_in g.C.Printer.printed scripts) (HaveJournal c.args.ran) text)
    over (g.R.Rig.logs rig) (g.R.Rig.states rig) (g.R.Rig.port_faults rig)
    (c.unplug.ensures.logs tells tell) (c.unplug.ensures.states tells tell) (c.unplug.ensures.counts tells))
    c.left_of_run-ports.result.report (c.left_of_run-ports.ensures.run tell b callers ports kept)

pub returns-clause-returned : goal.returns-clause-returned
returns-clause-returned g c =
    λ tells setups are.
    on-ok-then (λ same. c.unplug.ensures.returned tells ∙ same) c.left_of_run-ports.result.report (c.left_of_run-ports.ensures.setups setups are)
