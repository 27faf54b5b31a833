-- Which targets of one kind have an address, found once, at the opening.
use Rattle.std.specs.Prelude.{◌≡◌, ℕ, ◌≤◌, List, length, map}
use Rattle.std.specs.List.{filter, range_with_len}
use Rattle.i2c_base.specs.Limits.{MOST_DEVICES}
use Rattle.i2c_physics.specs.Places.{PlaceView}
use Rattle.i2c_physics.specs.Reach.{has_at}

-- the numbers of those at an address, rising
abbrev pub numbers_at : List PlaceView → ℕ → List ℕ
numbers_at places a = filter (λ k. has_at a places k) (range_with_len 0 (length places))

-- of them those below n
abbrev pub numbers_below : List PlaceView → ℕ → ℕ → List ℕ
numbers_below places n a = filter (λ k. has_at a places k) (range_with_len 0 n)

-- for each 7-bit address the numbers of those that have it
pub record IsIndex (places : List PlaceView) (at : List (List ℕ)) : Type 0 where
  pub few : length places ≤ MOST_DEVICES
  pub listed : at ≡ map (numbers_at places) (range_with_len 0 128)
