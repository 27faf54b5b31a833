use Rattle.bus_lines.proofs.Cited.{◌≡◌, ◌++◌, map, take, board_of, kept_device}
use Rattle.bus_lines.proofs.opening.add_devices.Given as goal

-- so many stand there
abbrev pub invariant-loop-device : goal.invariant-loop-device
invariant-loop-device l = l.bits.items ≡ l.fn.bits.items ++ map (kept_device (board_of l.fn.layout) l.root)
    (take l.device-index (board_of l.fn.layout).devices)
