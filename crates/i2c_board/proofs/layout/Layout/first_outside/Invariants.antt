use Rattle.i2c_board.proofs.Cited.{◌≡◌, ℕ, ◌<◌, false, board_of, stands_outside}
use Rattle.i2c_board.proofs.layout.Layout.first_outside.Given as goal

abbrev pub invariant-loop-one : goal.invariant-loop-one
invariant-loop-one l = (k : ℕ) → k < l.one → stands_outside (board_of l.self) l.mux k ≡ false
