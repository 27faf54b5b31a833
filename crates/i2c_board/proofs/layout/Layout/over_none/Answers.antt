use Rattle.i2c_board.proofs.Cited.{◌≡◌, ◌-◌, ◌<◌, get_or, rules, length, Some, sym, ap, ◌∙◌, arith, slice_get-get_or, board_of, buses}
use Rattle.i2c_board.proofs.WayLemmas.{hop_of_channel, over_beyond}
use Rattle.i2c_board.proofs.layout.Layout.over_none.Goals as goal

pub returns : goal.returns
returns c =
    let b = board_of c.args.self.now in
    let m = c.in_ok-mux.mux.now in
    let channel : c.seg.inside.0 - (c.buses.result - c.from.result) ≡ c.args.seg - (buses b - m.channels) =
    omega (arith, c.seg.view_is, c.buses.ensures, c.from.ensures) in
    let found : m ≡ get_or b.muxes (length b.muxes - 1) m = search rules in
    let some : 0 < length b.muxes = search rules in
    let last = slice_get-get_or b.muxes (length b.muxes - 1) m (let low : length b.muxes - 1 < length b.muxes = omega (arith, some) in low)
    ∙ ap (λ x. Some x) (sym found) in
    ap (λ h. Some h) (c.hop_at.ensures ∙ ap (λ n. hop_of_channel c.args.seg (length b.muxes - 1) n m) channel)
    ∙ sym (over_beyond b c.requires.plain c.args.seg m c.requires.behind last)
