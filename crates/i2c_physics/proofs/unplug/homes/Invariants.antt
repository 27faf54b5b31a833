use Rattle.i2c_physics.proofs.Cited.{vec_capacity, vec_len, board_of, root_of, AreMade}
use Rattle.i2c_physics.proofs.unplug.homes.Given as goal

abbrev pub invariant-loop-device : goal.invariant-loop-device
invariant-loop-device l =
    AreMade (λ d. root_of (board_of l.fn.layout) d.bus) (board_of l.fn.layout).devices l.device-index l.homes.items
    (vec_len l.homes) (vec_capacity l.homes)
