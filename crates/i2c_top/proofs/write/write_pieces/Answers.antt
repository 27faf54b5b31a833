use Rattle.i2c_top.proofs.Cited.{refl}
use Rattle.i2c_top.proofs.Pieces.{front_behind}
use Rattle.i2c_top.proofs.write.write_pieces.Goals as goal

pub returns-then-write_all-clause-front : goal.returns-then-write_all-clause-front
returns-then-write_all-clause-front g c =
    λ tells. front_behind _ _ _ _ _ _ c.pieces.ensures (c.if-write_all.ensures.whole tells refl)
    (c.write_behind.ensures.front tells)
