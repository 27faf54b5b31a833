use Rattle.i2c_physics.proofs.Cited.{vec_capacity, vec_len, opening_fails}
use Rattle.i2c_physics.proofs.PlugLemmas.{HaveOpened}
use Rattle.i2c_physics.proofs.fail_rig.open_ports.Given as goal

abbrev pub invariant-loop-root : goal.invariant-loop-root
invariant-loop-root l = HaveOpened (opening_fails l.board l.calls) l.count l.root l.ports.items (vec_len l.ports) (vec_capacity l.ports)
