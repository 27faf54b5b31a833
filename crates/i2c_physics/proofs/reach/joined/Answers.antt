use Rattle.i2c_physics.proofs.Cited.{[], ◌∷◌, length, ap, ◌∙◌, get_or, arith, length-append, take_all, joins_at, filter}
use Rattle.i2c_physics.proofs.StepLemmas.{kept-more, left-more}
use Rattle.i2c_physics.proofs.reach.joined.Goals as goal
use Rattle.i2c_physics.proofs.reach.joined.Goals.{then-joins_at, else-joins_at}

pub loop-number-preserved : goal.loop-number-preserved
loop-number-preserved c =
    let was = c.loop-number.invariant in
    let i = c.loop-number.number-index in
    let joins = joins_at c.args.chips.now c.args.places.now in
    let old = c.loop-number.joined in
    elim c.if-joins_at.branch [
      | then-joins_at w ↦
          let grown = w.joined-is ∙ w.push.ensures in
          record {
            few = omega (arith, was.few, ap length grown ∙ length-append old (get_or c.args.numbers.now i 0 ∷ []));
            joined = kept-more joins c.args.numbers.now i c.joins_at.result old _ c.loop-number-test.true w.if-joins_at.true
                c.joins_at.ensures was.joined grown;
          }
      | else-joins_at w ↦
          let same = w.joined-is in
          record {
            few = omega (arith, was.few, ap length same);
            joined = same ∙ left-more joins c.args.numbers.now i c.joins_at.result old c.loop-number-test.true w.if-joins_at.false
                c.joins_at.ensures was.joined;
          }
    ]

pub returns : goal.returns
returns c =
    c.loop-number.invariant.joined
    ∙ ap (filter (joins_at c.args.chips.now c.args.places.now))
    (take_all c.loop-number.number-index c.args.numbers.now (omega (arith, c.loop-number-test.false)))
