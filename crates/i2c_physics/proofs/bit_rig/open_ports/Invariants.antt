use Rattle.i2c_physics.proofs.Cited.{map, vec_capacity, vec_len, opening_wired, wired}
use Rattle.i2c_physics.proofs.PlugLemmas.{HaveOpened}
use Rattle.i2c_physics.proofs.bit_rig.open_ports.Given as goal

abbrev pub invariant-loop-root : goal.invariant-loop-root
invariant-loop-root g l =
    HaveOpened (opening_wired l.board) l.count l.root (map wired l.ports.items) (vec_len l.ports) (vec_capacity l.ports)
