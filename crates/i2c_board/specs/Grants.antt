-- Grants that were asked for before.
use Rattle.std.specs.Prelude.{◌≡◌, Option, IfSome}
use Rattle.i2c_base.specs.Board.{BoardView}
use Rattle.i2c_spec.specs.Grant.{grant_of}
use Rattle.i2c_board.specs.declared.cached_board.Known.{Known}

-- a grant that was asked for is the board's
abbrev pub IsKnown : BoardView → Known → Type 0
IsKnown b k = k.grant ≡ grant_of b k.bus k.addr k.force

-- .. where a cell has one
abbrev pub AreKnown : BoardView → Option Known → Type 0
AreKnown b cell = IfSome cell (IsKnown b)
