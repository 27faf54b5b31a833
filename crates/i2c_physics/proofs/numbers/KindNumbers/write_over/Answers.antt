use Rattle.i2c_physics.proofs.Cited.{[], ◌∷◌, ◌++◌, length, get_or, ap, sym, ◌∙◌, arith, length-append, take_all, take_more}
use Rattle.i2c_physics.proofs.numbers.KindNumbers.write_over.Goals as goal

pub loop-number-preserved : goal.loop-number-preserved
loop-number-preserved c =
    let was = c.loop-number.invariant in
    let numbers = c.args.numbers.now in
    let i = c.loop-number.number-index in
    let old = c.loop-number.self in
    let more = get_or numbers i 0 ∷ [] in
    record {
      few = omega (arith, was.few, ap length c.push.ensures ∙ length-append old more);
      written = c.push.ensures ∙ ap (λ ns. ns ++ more) was.written ∙ sym (take_more numbers i 0 c.loop-number-test.true);
    }

pub returns : goal.returns
returns c = c.loop-number.invariant.written
    ∙ take_all c.loop-number.number-index c.args.numbers.now (omega (arith, c.loop-number-test.false))
