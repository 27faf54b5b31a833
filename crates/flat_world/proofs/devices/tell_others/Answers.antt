use Rattle.flat_world.proofs.Cited.{not, get_or, Some, refl, ap, ◌∙◌, feed, to_current}
use Rattle.flat_world.proofs.FeedLemmas.{others_none, others_more, others_passed, passes_by}
use Rattle.flat_world.proofs.NamedLemmas.{unmet}
use Rattle.flat_world.proofs.devices.tell_others.Goals.{then-ne, else-ne}
use Rattle.flat_world.proofs.devices.tell_others.Goals as goal

pub loop-number-init : goal.loop-number-init
loop-number-init g c = others_none g.T.Target.table c.args.one c.args.event c.args.targets.now

pub loop-number-preserved : goal.loop-number-preserved
loop-number-preserved g c =
    let t = g.T.Target.table in
    let i = c.loop-number.number-index in
    let ns = c.args.numbers.now in
    let n = get_or ns i 0 in
    let new = unmet ns i 0 c.requires c.loop-number-test.true in
    elim c.if-ne.branch [
      | then-ne w ↦
          w.targets-is ∙ w.tell_at-answer.ensures.fed
          ∙ ap (λ m. feed t (to_current (Some m) c.args.event) 0 c.loop-number.targets) w.from.ensures
          ∙ ap (feed t (to_current (Some n) c.args.event) 0) c.loop-number.invariant
          ∙ others_more t c.args.one ns c.args.event i n c.loop-number-test.true refl (passes_by c.args.one n c.ne.result c.ne.ensures
          ∙ ap not w.if-ne.true) new c.args.targets.now
      | else-ne w ↦
          w.targets-is ∙ c.loop-number.invariant
          ∙ others_passed t c.args.one ns c.args.event i n c.loop-number-test.true refl c.args.targets.now
          (passes_by c.args.one n c.ne.result c.ne.ensures ∙ ap not w.if-ne.false)
    ]
