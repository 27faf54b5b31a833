-- The world of a root as the program has it: the targets by their numbers, and the place of each. Only the devices of
-- the root itself are held there: no message comes to another's, which is as it was opened.
use Rattle.std.specs.Prelude.{◌≡◌, ℕ, true, List, [], ◌∷◌, map, length, if◌then◌else◌}
use Rattle.i2c_base.specs.Board.{BoardView, DeviceView}
use Rattle.i2c_spec.specs.Plain.{IsPlainBoard}
use Rattle.i2c_spec.specs.Chips.{ChipView, chip_table}
use Rattle.i2c_spec.specs.Targets.{TargetState, Silent, state_table, opening_state}
use Rattle.bus_lines.specs.Owned.{is_of, is_own}
use Rattle.i2c_physics.specs.Places.{PlaceView, mux_place, device_place}
use Rattle.i2c_physics.specs.Reach.{is_among, IsReach}
use Rattle.i2c_physics.specs.declared.reach.Reach.{Reach}

-- what the world of a root holds of a device at the opening: nothing of one of another root
abbrev pub opened_on : BoardView → ℕ → DeviceView → TargetState
opened_on b root d = if is_of b root d then opening_state d else Silent

-- the devices as they are seen, where the world of a root holds these states: one of another root is as it was opened
abbrev pub seen_on : BoardView → ℕ → List DeviceView → List TargetState → List TargetState
seen_on b root [] states = []
seen_on b root (d ∷ ds) [] = []
seen_on b root (d ∷ ds) (s ∷ states) = (if is_of b root d then s else opening_state d) ∷ seen_on b root ds states

-- there is a chip for each mux of the board, and a device for each device, and each has its place; those that no message
-- has reached are quiet, and devices of other roots are among them
pub record IsSimWorld (b : BoardView) (root : ℕ) (muxes devices : List PlaceView) (chips : List ChipView) (states : List TargetState)
    (chip_reach device_reach : Reach) : Type 0 where
  pub plain : IsPlainBoard b
  pub mux_places : muxes ≡ map (mux_place b root) b.muxes
  pub device_places : devices ≡ map (device_place b root) b.devices
  pub chips_are : length chips ≡ length b.muxes
  pub devices_are : length states ≡ length b.devices
  pub chips_reached : IsReach chip_table chips chip_reach.started chip_reach.hearing
  pub devices_reached : IsReach state_table states device_reach.started device_reach.hearing
  pub reached_own : (k : ℕ) → is_among device_reach.started k ≡ true → is_own b root k ≡ true
