use Rattle.i2c_board.proofs.Cited.{◌≡◌, ◌+◌, arith, board_of, depth}
use Rattle.i2c_board.proofs.WayLemmas.{hops_le}
use Rattle.i2c_board.proofs.layout.Layout.depth.Goals as goal

pub overflow_add-depth : goal.overflow_add-depth
overflow_add-depth c =
    let b = board_of c.args.self.now in
    let count : c.loop-hop.depth + depth b c.loop-hop.at ≡ depth b c.args.seg = c.loop-hop.invariant in
    omega (arith, count, hops_le b c.args.seg, c.requires.most_muxes)
