-- What the transfers on a bus ask for.
use Rattle.std.specs.Prelude.{◌≡◌, ◌+◌, ◌^◌, ◌<◌, nat_lt, IfSome, if◌then◌else◌}
use Rattle.i2c_base.specs.Board.{BoardView}
use Rattle.i2c_base.specs.Limits.{MOST_ROOTS}
use Rattle.i2c_spec.specs.Cost.{full_cost}
use Rattle.i2c_spec.specs.Tree.{buses, hops, root_named}
use Rattle.i2c_board.specs.declared.cost.BusBill.{BusBill}

-- so many steps beside those of the transfer itself, which are few, and the root of the bus, where the board has it
pub record IsBill (b : BoardView) (bill : BusBill) : Type 0 where
  pub beside : bill.beside ≡ (if nat_lt bill.bus (buses b) then 1 + full_cost (hops b bill.bus) 0 else 1)
  pub few : bill.beside < 2 ^ 17
  pub root : bill.root ≡ root_named b bill.bus
  pub near : IfSome bill.root (λ r. r < MOST_ROOTS)
