use Rattle.i2c_board.proofs.Cited.{◌≡◌, list_any, board_of, hops, is_kept_hop}
use Rattle.i2c_board.proofs.layout.Layout.is_below_kept.Given as goal

-- what lies above decides
abbrev pub invariant-loop-hop : goal.invariant-loop-hop
invariant-loop-hop l =
    let b = board_of l.self in
    list_any (is_kept_hop b l.seg) (hops b l.at) ≡ list_any (is_kept_hop b l.seg) (hops b l.fn.other)

abbrev pub decreases-loop-hop : goal.decreases-loop-hop
decreases-loop-hop l = l.at
