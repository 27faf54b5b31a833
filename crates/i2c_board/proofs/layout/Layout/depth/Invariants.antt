use Rattle.i2c_board.proofs.Cited.{◌≡◌, ◌+◌, board_of, depth}
use Rattle.i2c_board.proofs.layout.Layout.depth.Given as goal

-- the muxes that were counted, and those above
abbrev pub invariant-loop-hop : goal.invariant-loop-hop
invariant-loop-hop l = l.depth + depth (board_of l.self) l.at ≡ depth (board_of l.self) l.fn.seg

abbrev pub decreases-loop-hop : goal.decreases-loop-hop
decreases-loop-hop l = l.at
