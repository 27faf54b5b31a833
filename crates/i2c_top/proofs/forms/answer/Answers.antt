use Rattle.i2c_top.proofs.Cited.{map, sym, ◌∙◌, subst, outside, HasEnded}
use Rattle.std.proofs.Common.{string_bytes}
use Rattle.i2c_top.specs.Traces.{rig_view}
use Rattle.i2c_top.proofs.AskedLemmas.{verify_asked}
use Rattle.i2c_top.proofs.forms.answer.Goals as goal

pub returns-then-is_verify-clause-ended : goal.returns-then-is_verify-clause-ended
returns-then-is_verify-clause-ended g c =
    let old = outside g.S.Shelf g.K.Sink g.R.Rig g.R.P.Port.tells c.args.shelf.now c.args.sink.now c.args.rig.now in
    let new = outside g.S.Shelf g.K.Sink g.R.Rig g.R.P.Port.tells c.verify_call.new.shelf c.verify_call.new.sink c.args.rig.now in
    subst (λ q. HasEnded q old new c.verify_call.result)
    (sym (verify_asked (map string_bytes c.args.words.now)
    (sym c.is_replay.ensures ∙ c.if-is_replay.false) (sym c.is_run.ensures ∙ c.if-is_run.false)
    (sym c.is_check.ensures ∙ c.if-is_check.false) (sym c.is_verify.ensures ∙ c.if-is_verify.true)))
    (c.verify_call.ensures.ended (rig_view g.R.Rig g.R.P.Port.tells c.args.rig.now))
