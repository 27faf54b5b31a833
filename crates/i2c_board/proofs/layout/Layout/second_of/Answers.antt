use Rattle.i2c_board.proofs.Cited.{sym, ◌∙◌, board_of}
use Rattle.i2c_spec.proofs.IdleLemmas.{outside-found}
use Rattle.i2c_board.proofs.layout.Layout.second_of.Goals as goal

pub unwrap-requires : goal.unwrap-requires
unwrap-requires c =
    outside-found (board_of c.args.self.now) c.args.mux c.first_outside.result c.first_outside.ensures.none c.requires.broken
    (sym c.may_stay.ensures ∙ c.if-may_stay.true)
