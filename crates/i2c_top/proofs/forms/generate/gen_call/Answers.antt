use Rattle.i2c_top.proofs.Cited.{[], refl, gen_form}
use Rattle.i2c_top.specs.Traces.{around}
use Rattle.i2c_top.proofs.EndingLemmas.{ended_by, for_ok, for_err}
use Rattle.i2c_top.proofs.GenerationLemmas.{gen_decides, gen_refusal, ended_generated, no_shelf}
use Rattle.i2c_top.proofs.forms.generate.gen_call.Goals as goal

pub returns-clause-ended : goal.returns-clause-ended
returns-clause-ended g c =
    λ shelf.
    let p = c.args.plan.now in
    let old = around shelf g.K.Sink g.R.Rig g.R.P.Port.tells c.args.sink.now c.args.rig.now in
    let new = around shelf g.K.Sink g.R.Rig g.R.P.Port.tells c.write_outcome.new.sink c.generate-outcome.new.rig in
    let refused = for_err c.generate-outcome.result _ c.generate-outcome.ensures.refused shelf in
    ended_by (gen_form p) (gen_decides p) old new shelf.words c.generate-outcome.result c.write_outcome.result refl
    (for_ok c.generate-outcome.result _ c.generate-outcome.ensures.done shelf) refused c.write_outcome.ensures.done
    (gen_refusal p old new [] c.generate-outcome.result c.write_outcome.result refused c.write_outcome.ensures.refused)

pub returns-clause-success : goal.returns-clause-success
returns-clause-success g c = ended_generated _ _ _ c.write_outcome.result (returns-clause-ended g c no_shelf)
