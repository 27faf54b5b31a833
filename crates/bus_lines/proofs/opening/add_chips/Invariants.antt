use Rattle.bus_lines.proofs.Cited.{◌≡◌, ◌++◌, map, take, board_of, chip_bit}
use Rattle.bus_lines.proofs.opening.add_chips.Given as goal

-- so many stand there
abbrev pub invariant-loop-mux : goal.invariant-loop-mux
invariant-loop-mux l = l.bits.items ≡ l.fn.bits.items ++ map chip_bit (take l.mux-index (board_of l.fn.layout).muxes)
