use Rattle.i2c_physics.proofs.Cited.{[], ◌∷◌, length, ap, ◌∙◌, get_or, arith, length-append, joins_at}
use Rattle.std.proofs.Common.{not}
use Rattle.i2c_physics.proofs.StepLemmas.{kept-more, left-more}
use Rattle.i2c_physics.proofs.reach.parted.Goals as goal
use Rattle.i2c_physics.proofs.reach.parted.Goals.{then-joins_at, else-joins_at}

pub loop-number-preserved : goal.loop-number-preserved
loop-number-preserved c =
    let was = c.loop-number.invariant in
    let numbers = c.args.numbers.now in
    let i = c.loop-number.number-index in
    let low = c.loop-number-test.true in
    let joins = joins_at c.args.chips.now c.args.places.now in
    let is = c.joins_at.ensures in
    let b = c.joins_at.result in
    let joined = c.loop-number.joined in
    let apart = c.loop-number.apart in
    elim c.if-joins_at.branch [
      | then-joins_at w ↦
          let grown = w.joined-is ∙ w.push.ensures in
          let same = w.apart-is in
          let yes = w.if-joins_at.true in
          record {
            few = omega (arith, was.few, ap length grown ∙ length-append joined (get_or numbers i 0 ∷ []));
            few_apart = omega (arith, was.few_apart, ap length same);
            joined = kept-more joins numbers i b joined _ low yes is was.joined grown;
            apart = same ∙ left-more (λ k. not (joins k)) numbers i (not b) apart low (ap not yes) (ap not is) was.apart;
          }
      | else-joins_at w ↦
          let same = w.joined-is in
          let grown = w.apart-is ∙ w.push-else-joins_at.ensures in
          let out = w.if-joins_at.false in
          record {
            few = omega (arith, was.few, ap length same);
            few_apart = omega (arith, was.few_apart, ap length grown ∙ length-append apart (get_or numbers i 0 ∷ []));
            joined = same ∙ left-more joins numbers i b joined low out is was.joined;
            apart = kept-more (λ k. not (joins k)) numbers i (not b) apart _ low (ap not out) (ap not is) was.apart grown;
          }
    ]
