use Rattle.i2c_board.proofs.Cited.{◌≡◌, ◌≤◌, length, take, reverse, board_of}
use Rattle.i2c_spec.specs.Grant.{way_through}
use Rattle.i2c_board.proofs.layout.Layout.way.Given as goal

abbrev pub invariant-loop-left : goal.invariant-loop-left
invariant-loop-left l =
    let b = board_of l.self in
    (l.left ≤ length l.hops.items) × (way_through b (reverse (take l.left l.hops.items)) ≡ way_through b (reverse l.hops.items))

abbrev pub decreases-loop-left : goal.decreases-loop-left
decreases-loop-left l = l.left
