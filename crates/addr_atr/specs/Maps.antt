-- A map: which muxes stand for address translators, and by which alias each device behind one is reached (after Linux i2c-atr).
use Rattle.std.specs.Prelude.{ℕ, ◌==◌, nat_lt, List, [], ◌∷◌, Option, Some, None, if◌then◌else◌}
use Rattle.std.specs.Option.{option_map}
use Rattle.i2c_base.specs.declared.alias.AliasPair.{AliasPair}
use Rattle.i2c_base.specs.Board.{BoardView}
use Rattle.i2c_spec.specs.Tree.{Hop, buses, over}

-- a mux that stands for a translator
pub record TranslatorView : Type 0 where
  pub mux : ℕ
  pub pairs : List AliasPair

-- the pairs of the translator that a mux stands for, where it stands for one
abbrev pub pairs_of : List TranslatorView → ℕ → Option (List AliasPair)
pairs_of [] m = None
pairs_of (t ∷ ts) m = if t.mux == m then Some t.pairs else pairs_of ts m

-- where what is sent on a translator's child bus goes: to the bus that the mux stands on, at the aliases
pub record Route : Type 0 where
  pub bus : ℕ
  pub pairs : List AliasPair

abbrev pub route_over : List TranslatorView → Option Hop → Option Route
route_over ts None = None
route_over ts (Some h) = option_map (λ ps. record { bus = h.on; pairs = ps }) (pairs_of ts h.mux)

-- the route of a bus; none where it is no translator's child bus, as one that the board lacks
abbrev pub route_of : BoardView → List TranslatorView → ℕ → Option Route
route_of b ts s = if nat_lt s (buses b) then route_over ts (over b s) else None

abbrev pub route_view : ℕ → List AliasPair → Route
route_view bus pairs = record { bus = bus; pairs = pairs }

-- a map over the board as written
pub record MapView : Type 0 where
  pub board : BoardView
  pub translators : List TranslatorView
