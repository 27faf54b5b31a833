use Rattle.tools.proofs.Cited.{◌≡◌, map, range_with_len, bus_line}
use Rattle.tools.proofs.command.detect.bus_lines.Given as goal

abbrev pub invariant-loop-bus : goal.invariant-loop-bus
invariant-loop-bus l = l.lines ≡ map (bus_line l.board) (range_with_len 0 l.bus)
