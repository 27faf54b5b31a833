use Rattle.i2c_board.proofs.Cited.{sym, ◌∙◌, board_of}
use Rattle.i2c_board.proofs.RuleLemmas.{TellsBroken_third}
use Rattle.i2c_board.proofs.layout.Layout.first_broken.Goals as goal

pub returns-in-Some-first_mux-2-clause-broken : goal.returns-in-Some-first_mux-2-clause-broken
returns-in-Some-first_mux-2-clause-broken c =
    TellsBroken_third (board_of c.args.self.now) c.unwrap-over.result _ c.in_default.ensures.none c.in_default-first_mux.ensures.none
    c.in-Some-first_mux-2.ensures.some (sym c.mux_locked_over.ensures ∙ c.unwrap-over.ensures)
