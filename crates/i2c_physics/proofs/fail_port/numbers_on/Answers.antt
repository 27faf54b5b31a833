use Rattle.i2c_physics.proofs.Cited.{◌∙◌, ap, arith, take_all, fails_on}
use Rattle.i2c_physics.proofs.FailLemmas.{listed-more, unlisted-more}
use Rattle.i2c_physics.proofs.fail_port.numbers_on.Goals as goal
use Rattle.i2c_physics.proofs.fail_port.numbers_on.Goals.{then-eq+in_ok-push, else-eq}

pub loop-call-preserved : goal.loop-call-preserved
loop-call-preserved c =
    let calls = c.args.calls.now in
    let i = c.loop-call.call-index in
    let old = c.loop-call.numbers.items in
    elim c.if-eq.branch [
      | then-eq+in_ok-push w ↦
          listed-more calls c.args.root i c.call-item.result c.eq.result old c.loop-call-test.true c.call-item.is c.eq.ensures
          c.loop-call.invariant
          _ w.if-eq.true (ap (λ v. v.items) w.numbers-is ∙ w.in_ok-push.ensures.items)
      | else-eq w ↦
          ap (λ v. v.items) w.numbers-is
          ∙ unlisted-more calls c.args.root i c.call-item.result c.eq.result old c.loop-call-test.true c.call-item.is c.eq.ensures
          c.loop-call.invariant w.if-eq.false
    ]

pub returns : goal.returns
returns c =
    c.loop-call.invariant
    ∙ ap (λ calls. fails_on calls c.args.root) (take_all c.loop-call.call-index c.args.calls.now (omega (arith, c.loop-call-test.false)))
