use Rattle.i2c_board.proofs.Cited.{◌≡◌, false, board_of, some_below, is_shared}
use Rattle.i2c_board.proofs.layout.Layout.stands_outside.Given as goal

abbrev pub invariant-loop-other : goal.invariant-loop-other
invariant-loop-other l = some_below (is_shared (board_of l.self) l.mux l.one) l.other ≡ false
