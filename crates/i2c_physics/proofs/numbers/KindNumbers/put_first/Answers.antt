use Rattle.i2c_physics.proofs.Cited.{[], ◌∷◌, ◌++◌, length, get_or, ap, sym, ◌∙◌, arith, length-append, take_all, take_more}
use Rattle.i2c_physics.proofs.numbers.KindNumbers.put_first.Goals as goal

pub loop-other-preserved : goal.loop-other-preserved
loop-other-preserved c =
    let was = c.loop-other.invariant in
    let numbers = c.as_slice-other-items.result.now in
    let i = c.loop-other.other-index in
    let more = get_or numbers i 0 ∷ [] in
    record {
      few = omega (arith, was.few, ap length c.push-in-loop-other.ensures ∙ length-append c.loop-other.all more);
      all = c.push-in-loop-other.ensures ∙ ap (λ ns. ns ++ more) was.all
          ∙ ap (λ ns. c.args.number ∷ ns) (sym (take_more numbers i 0 c.loop-other-test.true));
    }

pub returns : goal.returns
returns c =
    c.loop-other.invariant.all
    ∙ ap (λ ns. c.args.number ∷ ns)
    (take_all c.loop-other.other-index c.as_slice-other-items.result.now (omega (arith, c.loop-other-test.false))
    ∙ c.as_slice-other-items.ensures.value)
