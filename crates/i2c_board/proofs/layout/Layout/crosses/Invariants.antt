use Rattle.i2c_board.proofs.Cited.{◌≡◌, board_of, hops, crosses_mux}
use Rattle.i2c_board.proofs.layout.Layout.crosses.Given as goal

-- what lies above decides
abbrev pub invariant-loop-hop : goal.invariant-loop-hop
invariant-loop-hop l = crosses_mux l.mux (hops (board_of l.self) l.at) ≡ crosses_mux l.mux (hops (board_of l.self) l.fn.seg)

abbrev pub decreases-loop-hop : goal.decreases-loop-hop
decreases-loop-hop l = l.at
