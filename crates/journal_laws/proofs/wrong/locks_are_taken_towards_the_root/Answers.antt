use Rattle.journal_laws.proofs.Cited.{◌<◌, refl, arith}
use Rattle.i2c_base.specs.declared.ids.LockId.TheVariants as lock
use Rattle.journal_laws.proofs.wrong.locks_are_taken_towards_the_root.Goals as goal

pub returns : goal.returns
returns c = λ callers asks legal. absurd (let f : 1 < 0 = legal.locks.0.1 (lock.Bus 0) refl in omega (arith, f))
