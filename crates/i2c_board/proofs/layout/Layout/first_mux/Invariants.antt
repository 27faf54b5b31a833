use Rattle.i2c_board.proofs.Cited.{◌≡◌, ℕ, ◌<◌, false, board_of}
use Rattle.i2c_board.specs.Searches.{breaks}
use Rattle.i2c_board.proofs.layout.Layout.first_mux.Given as goal

abbrev pub invariant-loop-place : goal.invariant-loop-place
invariant-loop-place l = (k : ℕ) → k < l.place → breaks l.rule (board_of l.self) k ≡ false
