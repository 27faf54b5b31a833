-- The looks in front of the next step of a walk.
use Rattle.std.specs.Prelude.{◌≡◌}
use Rattle.bus_spec.specs.Slots.{Slots}
use Rattle.bus_spec.specs.Grammar.{seen}
use Rattle.mux_plan.specs.Plans.{WalkView, walk_of, looked_of}
use Rattle.mux_plan.specs.Rooms.{IsStep}

-- no look was answered since the last step
abbrev pub IsFresh : WalkView → Type 0
IsFresh w = w.looked ≡ w.tasks

-- the looks are answered by this, and a step comes next, or none
pub record IsLooked (v : Slots) (w : WalkView) : Type 0 where
  pub step : IsStep w.looked
  pub same : looked_of w ≡ seen v (walk_of w)
