use Rattle.i2c_physics.proofs.Cited.{vec_capacity, vec_len, board_of, opened_on, AreMade}
use Rattle.i2c_physics.proofs.sim_world.open_devices.Given as goal

abbrev pub invariant-loop-device : goal.invariant-loop-device
invariant-loop-device l =
    AreMade (opened_on (board_of l.fn.layout) l.root) (board_of l.fn.layout).devices l.device-index l.devices.items
    (vec_len l.devices) (vec_capacity l.devices)
