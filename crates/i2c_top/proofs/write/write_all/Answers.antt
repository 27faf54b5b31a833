use Rattle.i2c_top.proofs.Cited.{arith, ap, length, length-drop}
use Rattle.i2c_top.proofs.Pieces.{pieces_more}
use Rattle.i2c_top.proofs.write.write_all.Goals as goal

pub loop-done-preserved : goal.loop-done-preserved
loop-done-preserved g c =
    record {
      within = omega (arith, length-drop c.loop-done.done c.args.text.now, c.in-Ok.ensures.some.1, ap length c.rest.ensures);
      later = omega arith;
      written = λ t. pieces_more _ _ _ _ _ _ _ c.rest.ensures (c.loop-done.invariant.written t) (c.in-Ok.ensures.ok t);
    }
