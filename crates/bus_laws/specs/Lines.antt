-- Line steps need the root's lock, and a gpio mux stands only below parent-locked ones.
use Rattle.std.specs.Prelude.{◌≡◌, ℕ, true}
use Rattle.i2c_base.specs.Board.{BoardView}
use Rattle.i2c_spec.specs.Tree.{Hop, hops, home_of_mux, IsAmongHops}
use Rattle.bus_spec.specs.Walk.{is_gpio}
use Rattle.bus_spec.specs.Grammar.{kind_of}

abbrev pub LinesAreLocked : BoardView → Type 0
LinesAreLocked b = (m : ℕ) (g : Hop) → is_gpio (kind_of b m) ≡ true → IsAmongHops g (hops b (home_of_mux b m)) → g.parent ≡ true
