use Rattle.i2c_board.proofs.Cited.{◌≡◌, true, refl, sym, ◌∙◌, board_of, items, some_below, stands_outside, may_stay, breaks_idle}
use Rattle.i2c_spec.specs.Tree.{is_left_open}
use Rattle.i2c_spec.proofs.IdleLemmas.{outside-is}
use Rattle.i2c_board.proofs.layout.Layout.breaks_idle.Goals as goal

pub returns-else-not-may_stay : goal.returns-else-not-may_stay
returns-else-not-may_stay c =
    let b = board_of c.args.self.now in
    let m = c.args.mux in
    let left : is_left_open b m ≡ true = sym c.if-not-is_left_open.ensures in
    let stays : may_stay b m ≡ true = sym c.if-not-may_stay.ensures in
    let whole : breaks_idle b m ≡ some_below (stands_outside b m) (items b) = rw (left, stays) refl in
    c.is_some.ensures ∙ outside-is b m c.first_outside.result c.first_outside.ensures.none c.first_outside.ensures.some ∙ sym whole
