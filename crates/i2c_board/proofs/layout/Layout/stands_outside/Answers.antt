use Rattle.i2c_board.proofs.Cited.{◌<◌, sym, ◌∙◌, arith, board_of, items, is_shared}
use Rattle.i2c_spec.proofs.IdleLemmas.{one_below}
use Rattle.i2c_board.proofs.layout.Layout.stands_outside.Goals as goal

pub returns-then-is_shared : goal.returns-then-is_shared
returns-then-is_shared c =
    let b = board_of c.args.self.now in
    let low : c.loop-other.other < items b = omega
    (arith, c.loop-other-test.true, c.loop-other.auto.other-end, c.items-other-end.ensures) in
    sym (one_below (is_shared b c.args.mux c.args.one) (items b) c.loop-other.other low (sym c.is_shared.ensures ∙ c.if-is_shared.true))
