use Rattle.i2c_boardtext.proofs.Cited.{◌≡◌, buses_of}
use Rattle.std.proofs.Common.{take}
use Rattle.i2c_boardtext.proofs.board_text.count_buses.Given as goal

abbrev pub invariant-loop-mux : goal.invariant-loop-mux
invariant-loop-mux l = l.buses ≡ buses_of l.fn.roots (take l.mux-index l.muxes)
