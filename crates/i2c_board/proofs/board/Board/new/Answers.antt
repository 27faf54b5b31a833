use Rattle.i2c_board.proofs.Cited.{◌≡◌, length, ap, ◌∙◌, arith, BoardView, buses, buses_of, buses_le}
use Rattle.i2c_board.proofs.board.Board.new.Goals as goal

pub hops_by_bus-requires-clause-few : goal.hops_by_bus-requires-clause-few
hops_by_bus-requires-clause-few c =
    let b : BoardView = record {
      version = c.args.version;
      roots = c.args.roots.items;
      muxes = c.args.muxes.items;
      devices =
          c.args.devices.items;
    } in
    let few = buses_le b c.requires in
    let roots : c.len.result ≡ length b.roots = omega arith in
    let same : buses_of c.len.result c.deref.result.now ≡ buses b =
    ap (λ n. buses_of n c.deref.result.now) roots ∙ ap (buses_of (length b.roots)) c.deref.ensures.value in
    omega (arith, few, same)
