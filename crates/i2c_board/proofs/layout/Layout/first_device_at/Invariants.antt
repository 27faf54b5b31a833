use Rattle.i2c_board.proofs.Cited.{◌+◌, ◌<◌, length, Some, board_of, is_at, NoneAfter}
use Rattle.i2c_board.proofs.layout.Layout.first_device_at.Given as goal

abbrev pub invariant-loop-device : goal.invariant-loop-device
invariant-loop-device l = record {
  behind : l.one < length l.self.muxes.now + l.device;
  none : NoneAfter (is_at (board_of l.self) (Some l.addr) l.home) l.one (length l.self.muxes.now + l.device);
}
