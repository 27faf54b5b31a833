use Rattle.i2c_board.proofs.Cited.{ℕ, ◌<◌, board_of, clashes, items, NoneAfter}
use Rattle.i2c_board.proofs.layout.Layout.first_clash.Given as goal

abbrev pub invariant-loop-one : goal.invariant-loop-one
invariant-loop-one l = (k : ℕ) → k < l.one → NoneAfter (clashes (board_of l.self) k) k (items (board_of l.self))
