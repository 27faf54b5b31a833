use Rattle.i2c_physics.proofs.Cited.{vec_capacity, vec_len, board_of, mux_place, AreMade}
use Rattle.i2c_physics.proofs.sites.Sites.of_muxes.Given as goal

abbrev pub invariant-loop-mux : goal.invariant-loop-mux
invariant-loop-mux l =
    AreMade (mux_place (board_of l.fn.layout) l.root) (board_of l.fn.layout).muxes l.mux-index l.places.items
    (vec_len l.places) (vec_capacity l.places)
