use Rattle.i2c_board.proofs.Cited.{◌≡◌, ◌-◌, length, slice_get, sym, ap, ◌∙◌, arith, board_of, slice_get-get_or}
use Rattle.i2c_board.proofs.WayLemmas.{over_root, length-kept, kept_over}
use Rattle.i2c_board.proofs.layout.Layout.over.Goals as goal

pub returns-in_err-place : goal.returns-in_err-place
returns-in_err-place c =
    let number : c.from.result ≡ c.args.seg = c.from.ensures ∙ c.seg.view_is in
    let missing = c.in_err-place.ensures in
    c.from_residual.ensures ∙ sym (over_root (board_of c.args.self.now) c.requires c.args.seg (omega (arith, number, missing)))

pub over_none-requires-clause-behind : goal.over_none-requires-clause-behind
over_none-requires-clause-behind c =
    let l = c.args.self.now in
    let number : c.from.result ≡ c.args.seg = c.from.ensures ∙ c.seg.view_is in
    let place = c.in_ok-place.ensures in
    omega (arith, number, place, c.if-place-self.false, length-kept (board_of l) l.by_bus.now l.by_number)

pub returns-then-place-self : goal.returns-then-place-self
returns-then-place-self c =
    let l = c.args.self.now in
    let number : c.from.result ≡ c.args.seg = c.from.ensures ∙ c.seg.view_is in
    let place = c.in_ok-place.ensures in
    let count = length-kept (board_of l) l.by_bus.now l.by_number in
    let same : c.in_ok-place.place ≡ c.args.seg - length l.roots.now = omega (arith, number, place) in
    sym (slice_get-get_or l.by_bus.now c.in_ok-place.place c.index-self-place.result c.if-place-self.true)
    ∙ ap (slice_get l.by_bus.now) same
    ∙ kept_over (board_of l) l.by_bus.now l.by_number c.args.seg (omega (arith, number, place))
    (omega (arith, number, place, count, c.if-place-self.true))
