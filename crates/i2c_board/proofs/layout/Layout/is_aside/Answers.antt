use Rattle.i2c_board.proofs.Cited.{sym, ◌∙◌, ◌≡◌, false, board_of, stays_in}
use Rattle.i2c_board.proofs.AsideLemmas.{none_aside}
use Rattle.i2c_board.proofs.layout.Layout.is_aside.Goals as goal

pub returns-then-not-self : goal.returns-then-not-self
returns-then-not-self c =
    let none : stays_in c.args.self.now.muxes.now ≡ false = sym c.args.self.now.staying ∙ c.if-not-self.true in
    sym (none_aside (board_of c.args.self.now) none c.args.seg c.args.other)
