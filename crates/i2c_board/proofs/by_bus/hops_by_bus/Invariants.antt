use Rattle.i2c_board.proofs.Cited.{◌≡◌, take, reverse, hops_by_bus, buses_of}
use Rattle.i2c_board.proofs.by_bus.hops_by_bus.Given as goal

-- the hops of the muxes so far, and where the next one begins
abbrev pub invariant-loop-number : goal.invariant-loop-number
invariant-loop-number l =
    (l.hops.items ≡ hops_by_bus l.roots (reverse (take l.number l.muxes)))
    × (l.first ≡ buses_of l.roots (take l.number l.muxes))
