use Rattle.i2c_top.proofs.Cited.{◌∷◌, [], ◌++◌, ◌∙◌, ap, length-map, AtrCallerView, behind_of}
use Rattle.i2c_top.proofs.Numbering.{map-push, over-next, room-next}
use Rattle.i2c_top.proofs.forms.atr.behind.Goals as goal

pub push_reserved-requires : goal.push_reserved-requires
push_reserved-requires c =
    room-next c.loop-script.invariant c.in-Some.ensures.steps.0 (length-map c.loop-script.yielded (behind_of c.args.translators.now))
    c.loop-script.callers.ok.0

pub loop-script-preserved : goal.loop-script-preserved
loop-script-preserved c =
    over-next c.loop-script.invariant c.in-Some.ensures.steps.0 _ c.in-Some.ensures.steps.1
    (c.push_reserved.ensures.items ∙ ap (λ (x : AtrCallerView). c.loop-script.callers.items ++ x ∷ []) c.open.ensures)
    c.push_reserved.ensures.capacity (map-push (behind_of c.args.translators.now) c.loop-script.yielded _)
