use Rattle.i2c_physics.proofs.Cited.{vec_capacity, vec_len, board_of, device_place, AreMade}
use Rattle.i2c_physics.proofs.sites.Sites.of_devices.Given as goal

abbrev pub invariant-loop-device : goal.invariant-loop-device
invariant-loop-device l =
    AreMade (device_place (board_of l.fn.layout) l.root) (board_of l.fn.layout).devices l.device-index l.places.items
    (vec_len l.places) (vec_capacity l.places)
