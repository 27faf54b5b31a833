use Rattle.i2c_physics.proofs.Cited.{arith}
use Rattle.i2c_physics.proofs.NumberLemmas.{rising-length}
use Rattle.i2c_physics.proofs.reach.add_all.Goals as goal

pub write_over-requires : goal.write_over-requires
write_over-requires c = omega (arith, rising-length 0 _ _ c.requires.added, c.requires.few)
