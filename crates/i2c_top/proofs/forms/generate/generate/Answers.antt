use Rattle.i2c_top.proofs.Cited.{ℕ, List, Some, subst, IfOk, texts_of, HasRunTold, summary_of}
use Rattle.i2c_top.proofs.EndingLemmas.{each_ok, each_err}
use Rattle.i2c_top.proofs.GenerationLemmas.{gen_done, gen_failed, made_summary}
use Rattle.i2c_top.proofs.forms.generate.generate.Goals as goal

pub returns-clause-done : goal.returns-clause-done
returns-clause-done g c =
    let run = c.run_generated.ensures in
    let made = c.in_ok-board.ensures in
    let p = c.args.plan.now in
    let rig = c.run_generated.new.rig in
    each_ok c.run_generated.result _
    (λ shelf. gen_done p shelf _ _ c.run_generated.result run.rig
    (λ tells ports. made_summary p c.in_ok-board.field-0.board c.in_ok-board.field-0.scripts.items c.in_ok-board.field-0.schedule.items
    c.run_generated.result (g.R.Rig.logs rig) (g.R.Rig.states rig) (g.R.Rig.port_faults rig) made.made made.schedule
    (subst (λ (ws : List ℕ). IfOk c.run_generated.result (λ x. HasRunTold (summary_of p) c.in_ok-board.field-0.board
    (texts_of c.in_ok-board.field-0.scripts.items) (Some ws) x (g.R.Rig.logs rig) (g.R.Rig.states rig) (g.R.Rig.port_faults rig)))
    c.as_slice.ensures.value (run.run tells ports))))

pub returns-clause-refused : goal.returns-clause-refused
returns-clause-refused g c =
    each_err c.run_generated.result _ (λ shelf. gen_failed c.args.plan.now shelf _ _ c.run_generated.result c.run_generated.ensures.rig)
