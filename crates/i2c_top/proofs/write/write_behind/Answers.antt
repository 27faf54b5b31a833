use Rattle.i2c_top.proofs.Cited.{refl}
use Rattle.i2c_top.proofs.Pieces.{front_behind}
use Rattle.i2c_top.proofs.write.write_behind.Goals as goal

pub returns-then-write_journals-clause-front : goal.returns-then-write_journals-clause-front
returns-then-write_journals-clause-front g c =
    λ tells. front_behind _ _ _ _ _ _ refl (c.if-write_journals.ensures.whole tells refl)
    (c.write_all.ensures.front tells)
