use Rattle.i2c_board.proofs.Cited.{◌≡◌, ◌++◌, length, ap, arith, length-append, board_of, hops}
use Rattle.i2c_board.proofs.WayLemmas.{hops_le}
use Rattle.i2c_board.proofs.layout.Layout.find_hops.Goals as goal

pub push-requires : goal.push-requires
push-requires c =
    let b = board_of c.args.self.now in
    let found = c.loop-hop.found.items in
    let whole : found ++ hops b c.loop-hop.at ≡ hops b c.args.seg = c.loop-hop.invariant in (
      omega arith,
      omega (
        arith,
        ap length whole,
        ap length c.in-Some.ensures.first,
        length-append found (hops b c.loop-hop.at),
        hops_le b c.args.seg,
        c.requires.most_muxes,
      ),
    )
