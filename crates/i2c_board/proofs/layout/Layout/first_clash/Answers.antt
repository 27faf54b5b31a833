use Rattle.i2c_board.proofs.Cited.{below_more}
use Rattle.i2c_board.proofs.layout.Layout.first_clash.Goals as goal

pub loop-one-preserved : goal.loop-one-preserved
loop-one-preserved c = below_more _ _ c.loop-one.invariant c.in_default.ensures.none
