use Rattle.i2c_board.proofs.Cited.{◌≡◌, board_of, root_of}
use Rattle.i2c_board.proofs.layout.Layout.root.Given as goal

abbrev pub invariant-loop-hop : goal.invariant-loop-hop
invariant-loop-hop l = root_of (board_of l.self) l.at ≡ root_of (board_of l.self) l.fn.seg

abbrev pub decreases-loop-hop : goal.decreases-loop-hop
decreases-loop-hop l = l.at
