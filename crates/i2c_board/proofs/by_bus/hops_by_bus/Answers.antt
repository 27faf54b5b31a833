use Rattle.i2c_board.proofs.Cited.{◌+◌, ◌++◌, take, reverse, get_or, ap, sym, ◌∙◌, take_more, MuxSpec, channel_hops, hops_by_bus, buses_of}
use Rattle.i2c_spec.proofs.HopLemmas.{buses_of-push}
use Rattle.i2c_board.proofs.WayLemmas.{hops_by_bus-more}
use Rattle.i2c_board.proofs.by_bus.hops_by_bus.Goals as goal

pub loop-number-preserved : goal.loop-number-preserved
loop-number-preserved c =
    let ms = c.args.muxes.now in
    let roots = c.args.roots in
    let i = c.loop-number.number in
    let m = c.index-muxes-number.result in
    let found = hops_by_bus roots (reverse (take i ms)) in
    let was = c.loop-number.invariant in
    let mux = c.index-muxes-number.is in (
      c.in_ok-push_channels.ensures ∙ ap (λ hs. hs ++ channel_hops c.loop-number.first i m m.channels) was.0
          ∙ ap (λ n. found ++ channel_hops n i m m.channels) was.1
          ∙ ap (λ (x : MuxSpec). found ++ channel_hops (buses_of roots (take i ms)) i x x.channels) mux
          ∙ sym (hops_by_bus-more roots ms i m c.loop-number-test.true),
      ap (λ n. n + c.from-first.result) was.1 ∙ ap (λ n. buses_of roots (take i ms) + n) c.from-first.ensures
          ∙ ap (λ (x : MuxSpec). buses_of roots (take i ms) + x.channels) mux
          ∙ sym (buses_of-push roots (take i ms) (get_or ms i m))
          ∙ ap (buses_of roots) (sym (take_more ms i m c.loop-number-test.true)),
    )
