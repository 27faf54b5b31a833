use Rattle.i2c_board.proofs.Cited.{sym, ◌∙◌, arith, board_of}
use Rattle.i2c_board.proofs.WayLemmas.{above_no}
use Rattle.i2c_board.proofs.layout.Layout.is_below.Goals as goal

pub returns : goal.returns
returns c =
    sym (above_no (board_of c.args.self.now) c.requires c.loop-at.at c.args.high
    (omega (arith, c.loop-at-test.false, c.high.view_is, c.at.view_is)))
    ∙ c.loop-at.invariant
