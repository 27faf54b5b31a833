use Rattle.i2c_board.proofs.Cited.{Some, board_of, is_at, NoneAfter}
use Rattle.i2c_board.proofs.layout.Layout.first_mux_at.Given as goal

abbrev pub invariant-loop-mux : goal.invariant-loop-mux
invariant-loop-mux l = NoneAfter (is_at (board_of l.self) (Some l.addr) l.home) l.one l.mux
