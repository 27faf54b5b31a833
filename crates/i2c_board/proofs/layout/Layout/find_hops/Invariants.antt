use Rattle.i2c_board.proofs.Cited.{◌≡◌, ◌++◌, board_of, hops}
use Rattle.i2c_board.proofs.layout.Layout.find_hops.Given as goal

-- the hops found, and those above
abbrev pub invariant-loop-hop : goal.invariant-loop-hop
invariant-loop-hop l = l.found.items ++ hops (board_of l.self) l.at ≡ hops (board_of l.self) l.fn.seg

abbrev pub decreases-loop-hop : goal.decreases-loop-hop
decreases-loop-hop l = l.at
