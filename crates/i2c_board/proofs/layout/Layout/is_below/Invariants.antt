use Rattle.i2c_board.proofs.Cited.{◌≡◌, board_of, is_below}
use Rattle.i2c_board.proofs.layout.Layout.is_below.Given as goal

-- what lies above decides
abbrev pub invariant-loop-at : goal.invariant-loop-at
invariant-loop-at l = is_below (board_of l.self) l.at l.fn.high ≡ is_below (board_of l.self) l.fn.low l.fn.high

abbrev pub decreases-loop-at : goal.decreases-loop-at
decreases-loop-at l = l.at
