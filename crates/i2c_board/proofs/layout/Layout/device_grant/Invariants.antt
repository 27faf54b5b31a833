use Rattle.i2c_board.proofs.Cited.{◌≡◌, take, board_of, device_grant}
use Rattle.i2c_board.proofs.layout.Layout.device_grant.Given as goal

-- what the devices that were looked at say
abbrev pub invariant-loop-place : goal.invariant-loop-place
invariant-loop-place l = l.found ≡ device_grant (board_of l.self) (take l.place l.device-items) l.seg l.addr l.force
