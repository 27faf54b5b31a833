-- What the type of a map keeps: the board as written is an accepted one, the map is one of it, and the lowered board is accepted.
use Rattle.std.specs.Prelude.{◌≡◌}
use Rattle.i2c_base.specs.Board.{BoardView}
use Rattle.i2c_spec.specs.Plain.{IsPlainBoard}
use Rattle.i2c_spec.specs.Rules.{MeetsRules}
use Rattle.addr_atr.specs.Maps.{MapView}
use Rattle.addr_atr.specs.Lowering.{lowered, IsMap}

pub record IsKept (m : MapView) (low : BoardView) : Type 0 where
  pub plain : IsPlainBoard m.board
  pub rules : MeetsRules m.board
  pub is_map : IsMap m.board m.translators
  pub low_is : low ≡ lowered m.board m.translators
  pub low_rules : MeetsRules low
