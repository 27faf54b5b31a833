-- What the type of a board keeps.
use Rattle.std.specs.Prelude.{◌≡◌, length, reverse}
use Rattle.i2c_base.specs.Board.{BoardView}
use Rattle.i2c_spec.specs.Plain.{IsPlainBoard}
use Rattle.i2c_board.specs.Passes.{hops_by_bus}
use Rattle.i2c_spec.specs.Tree.{stays_in}
use Rattle.i2c_board.specs.declared.board.Board.TheInside.{Inside}

-- the parts that contracts see
abbrev pub parts_of : Inside → BoardView
parts_of b = record { version = b.version; roots = b.roots.items; muxes = b.muxes.items; devices = b.devices.items }

-- the parts fit each other, and what is kept beside them is their tree
pub record IsBoard (b : Inside) : Type 0 where
  pub plain : IsPlainBoard (parts_of b)
  pub by_number : b.by_bus.items ≡ hops_by_bus (length b.roots.items) (reverse b.muxes.items)
  pub staying : b.stays ≡ stays_in b.muxes.items
