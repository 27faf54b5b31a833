use Rattle.i2c_board.proofs.Cited.{arith, common_steps}
use Rattle.i2c_board.proofs.board.Board.is_below.Goals as goal

pub returns : goal.returns
returns c = grind (arith, common_steps)
