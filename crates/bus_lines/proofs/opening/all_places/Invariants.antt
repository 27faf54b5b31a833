use Rattle.bus_lines.proofs.Cited.{◌≡◌, ◌++◌, map, take, board_of, mux_place, device_place}
use Rattle.bus_lines.proofs.opening.all_places.Given as goal

-- so many stand there
abbrev pub invariant-loop-mux : goal.invariant-loop-mux
invariant-loop-mux l = l.places.items ≡ map (mux_place (board_of l.layout) l.root) (take l.mux-index (board_of l.layout).muxes)

abbrev pub invariant-loop-device : goal.invariant-loop-device
invariant-loop-device l =
    l.places.items ≡ map (mux_place (board_of l.layout) l.root) (board_of l.layout).muxes
    ++ map (device_place (board_of l.layout) l.root) (take l.device-index (board_of l.layout).devices)
