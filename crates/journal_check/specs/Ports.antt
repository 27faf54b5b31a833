-- A port of which the calls fail that gaps tell: how many calls go through before each one that fails.
use Rattle.std.specs.Prelude.{◌≡◌, ℕ, ◌+◌, List, [], ◌∷◌, length, map, Option, Some, None}
use Rattle.std.specs.List.{All, enumerate_from, range_with_len}
use Rattle.i2c_base.specs.declared.port.Phase.TheVariants.{Idle}
use Rattle.i2c_base.specs.Board.{BoardView}
use Rattle.i2c_spec.specs.World.{openings}
use Rattle.i2c_physics.specs.SimPorts.{PortView, opening_port}
use Rattle.check_laws.specs.Failed.{FailedBy, fails_by}

-- the gaps that are still to come: so many calls are left of the first, where there is one
abbrev pub still : Option ℕ → List ℕ → List ℕ
still None later = []
still (Some n) later = n ∷ later

-- the calls so far failed as the gaps of the port's root say, and those to come fail by what is left of them
pub record IsToldPort (gaps : ℕ → List ℕ) (p : PortView) (left : Option ℕ) (later : List ℕ) : Type 0 where
  pub failed : FailedBy p.log (gaps p.world.root)
  pub behind : (n : ℕ) → fails_by (gaps p.world.root) (length p.log + n) ≡ fails_by (still left later) n

-- the ports of the first so many roots, as they are opened
abbrev pub opening_ports : BoardView → ℕ → List PortView
opening_ports b many = map (opening_port b) (range_with_len 0 many)

-- the ports of all roots of a board, each by its number: no call was made on any
pub record AreOpeningPorts (b : BoardView) (ports : List (ℕ × PortView)) : Type 0 where
  pub numbered : ports ≡ enumerate_from 0 (map (λ (p : ℕ × PortView). p.1) ports)
  pub count : length (map (λ (p : ℕ × PortView). p.1) ports) ≡ length b.roots
  pub idle : All (λ (p : PortView). p.phase ≡ Idle) (map (λ (p : ℕ × PortView). p.1) ports)
  pub empty : All (λ (p : PortView). p.log ≡ []) (map (λ (p : ℕ × PortView). p.1) ports)
  pub worlds : map (λ (p : PortView). p.world) (map (λ (p : ℕ × PortView). p.1) ports) ≡ openings b
