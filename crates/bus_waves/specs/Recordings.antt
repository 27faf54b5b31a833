-- Lines whose levels are recorded, step by step.
use Rattle.std.specs.Prelude.{◌≡◌, ℕ, Bool, true, false, List, [], ◌∷◌, map}
use Rattle.std.specs.List.{AllByRecursion}
use Rattle.i2c_spec.specs.World.{opening_world}
use Rattle.wire_spec.specs.declared.mode.Mode.TheVariants.{Out}
use Rattle.wire_spec.specs.Wires.{Bit}
use Rattle.wire_spec.specs.Bus.{Bus, Sign, Level, Started, Stopped}
use Rattle.wire_spec.specs.Sites.{NodeState}
use Rattle.i2c_bits.specs.Wiring.{Rooted}
use Rattle.i2c_bits.specs.Stands.{IsFree, world_at}
use Rattle.bus_waves.specs.Levels.{both_high, levels, levels_of, code_of, Doing, along, levels_along, showing, last_of}

-- from the opening of its root on, the lines came to what they are by some steps, and these are the levels behind each; they show all
-- that was seen on the lines
pub record AreSteps (k : Rooted) (bus : Bus NodeState) (steps : List ℕ) : Type 0 where
  pub opened : Bus NodeState
  pub free : IsFree k opened
  pub world : world_at k false opened ≡ opening_world k.board k.root
  pub doings : List Doing
  pub course : bus ≡ along k opened doings
  pub steps_are : steps ≡ map code_of (levels_along k opened doings)
  pub seen : bus.seen ≡ showing both_high [] (levels_along k opened doings)

-- a target that is out of any message, and one that is where it isn't joined
pub record IsAway (b : Bit NodeState) : Type 0 where
  pub mode : b.mode ≡ Out
  pub hold : b.hold ≡ 0

abbrev pub IsAside : Bit NodeState → Type 0
IsAside b = b.site.joined ≡ false → IsAway b

-- all are out of it behind a stop, until a start
abbrev pub free_behind : Bool → List Sign → Bool
free_behind free [] = free
free_behind free (Level high ∷ ss) = free
free_behind free (Started ∷ ss) = false
free_behind free (Stopped ∷ ss) = true

-- what the program keeps of that: the last levels, and whether all are out of a message
pub record IsRecording (k : Rooted) (bus : Bus NodeState) (scl sda free : Bool) (steps : List ℕ) : Type 0 where
  pub made : AreSteps k bus steps
  pub last : levels scl sda ≡ levels_of bus
  pub last_step : last_of both_high (levels_along k made.opened made.doings) ≡ levels_of bus
  pub aside : AllByRecursion IsAside bus.targets
  pub away : free ≡ true → AllByRecursion IsAway bus.targets
