use Rattle.i2c_physics.proofs.Cited.{vec_capacity, vec_len, opening_port}
use Rattle.i2c_physics.proofs.PlugLemmas.{HaveOpened}
use Rattle.i2c_physics.proofs.hold_rig.open_ports.Given as goal

abbrev pub invariant-loop-root : goal.invariant-loop-root
invariant-loop-root l = HaveOpened (opening_port l.board) l.count l.root l.ports.items (vec_len l.ports) (vec_capacity l.ports)
