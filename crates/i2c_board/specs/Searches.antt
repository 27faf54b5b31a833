-- The rules over single muxes, each as a test of one mux; and what a search over pairs finds.
use Rattle.std.specs.Prelude.{◌≡◌, ℕ, ◌<◌, ◌&&◌, Bool, true, false, Option}
use Rattle.i2c_base.specs.Board.{BoardView}
use Rattle.i2c_board.specs.declared.topology.MuxRule.{MuxRule}
use Rattle.i2c_board.specs.declared.topology.MuxRule.TheVariants.{Depth, Lock, Parent, Idle}
use Rattle.i2c_spec.specs.Rules.{home_at, addr_at, is_same_address, is_too_deep, is_locked_under, is_wrongly_locked, breaks_idle}
use Rattle.i2c_spec.specs.Tree.{is_along}

-- a mux breaks the rule
abbrev pub breaks : MuxRule → BoardView → ℕ → Bool
breaks Depth = is_too_deep
breaks Lock = is_locked_under
breaks Parent = is_wrongly_locked
breaks Idle = breaks_idle

-- an item has this address, and one of its bus and this one is on the path of the other: with its own address and bus, what
-- clashes with an item
abbrev pub is_at : BoardView → Option ℕ → ℕ → ℕ → Bool
is_at b addr home k = is_same_address addr (addr_at b k) && is_along b home (home_at b k)

-- no later item is at fault with item i; j is the first that is
abbrev pub NoneAfter : (ℕ → Bool) → ℕ → ℕ → Type 0
NoneAfter test i n = (l : ℕ) → i < l → l < n → test l ≡ false

pub record IsFirstAfter (test : ℕ → Bool) (i n j : ℕ) : Type 0 where
  pub order : i < j
  pub within : j < n
  pub broken : test j ≡ true
  pub least : NoneAfter test i j
