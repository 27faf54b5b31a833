-- How many tasks a stack may have: so many for each mux that was crossed, and the locks of its bus.
use Rattle.std.specs.Prelude.{◌≡◌, ℕ, ◌+◌, ◌*◌, ◌<◌, ◌≤◌, List, [], ◌∷◌, length, All}
use Rattle.i2c_base.specs.Limits.{MOST_CHANNELS, MOST_DEPTH}
use Rattle.i2c_spec.specs.Tree.{Hop}
use Rattle.mux_plan.specs.Plans.{RouteView}
use Rattle.mux_plan.specs.declared.task.Work.{Work}
use Rattle.mux_plan.specs.declared.task.Work.TheVariants as work
use Rattle.mux_plan.specs.declared.task.Task.{Task}
use Rattle.mux_plan.specs.declared.task.Task.TheVariants.{Enter, Lock, Free, Rest, Line, Settle, AwaitClose, Pass, AwaitSelect, AwaitWork, AwaitDeselect}

-- a stack has room for so many tasks, and as many marks may change at once
abbrev pub STACK_ROOM : ℕ
STACK_ROOM = 32

-- no mux has more channels than a mux may have
abbrev pub IsNarrow : Hop → Type 0
IsNarrow h = h.channel < MOST_CHANNELS

-- the mux of a piece of work is one of so many on the path
abbrev pub IsPlacedWork : ℕ → Work → Type 0
IsPlacedWork d work.Call = Unit {0}
IsPlacedWork d (work.Select k) = k < d
IsPlacedWork d (work.Deselect k) = k < d
IsPlacedWork d (work.Close on mux kind) = Unit {0}

-- a task over m others, on a path over d muxes
abbrev pub Fits : ℕ → Task → ℕ → Type 0
Fits d (Enter n w) m = IsPlacedWork d w × (n ≤ d) × (m ≤ 6 * n + 5)
Fits d (Lock f n w) m = IsPlacedWork d w × (n ≤ f) × (f ≤ d) × (m ≤ 5 * n + f)
Fits d (Free l) m = m < STACK_ROOM
Fits d (Rest left w) m = IsPlacedWork d w × (m ≤ 6 * d + 5)
Fits d (Line w) m = IsPlacedWork d w × (m ≤ 6 * d + 5)
Fits d (Settle v) m = m < STACK_ROOM
Fits d (AwaitClose k x w) m = IsPlacedWork d w × (k < d) × (m + 1 ≤ 6 * (k + 1))
Fits d (Pass k w) m = IsPlacedWork d w × (k < d) × (m + 1 ≤ 6 * (k + 1))
Fits d (AwaitSelect k w) m = IsPlacedWork d w × (k < d) × (m + 1 ≤ 6 * (k + 1))
Fits d (AwaitWork k) m = (k < d) × (m + 1 ≤ 6 * (k + 1))
Fits d (AwaitDeselect k was) m = (k < d) × (m < STACK_ROOM)

abbrev pub IsPlaced : ℕ → List Task → Type 0
IsPlaced d [] = Unit {0}
IsPlaced d (t ∷ ts) = Fits d t (length ts) × IsPlaced d ts

-- the walk stands at a task that isn't waiting
abbrev pub IsReady : List Task → Type 0
IsReady [] = Unit {0}
IsReady (Enter n w ∷ ts) = Unit {0}
IsReady (Lock m n w ∷ ts) = Unit {0}
IsReady (Free l ∷ ts) = Unit {0}
IsReady (Rest left w ∷ ts) = Unit {0}
IsReady (Line w ∷ ts) = Unit {0}
IsReady (Settle v ∷ ts) = Unit {0}
IsReady (AwaitClose k m w ∷ ts) = ⊥
IsReady (Pass k w ∷ ts) = Unit {0}
IsReady (AwaitSelect k w ∷ ts) = ⊥
IsReady (AwaitWork k ∷ ts) = ⊥
IsReady (AwaitDeselect k was ∷ ts) = ⊥

-- .. and that is a step
abbrev pub IsStep : List Task → Type 0
IsStep [] = Unit {0}
IsStep (Enter n w ∷ ts) = ⊥
IsStep (Lock m n w ∷ ts) = Unit {0}
IsStep (Free l ∷ ts) = Unit {0}
IsStep (Rest left w ∷ ts) = Unit {0}
IsStep (Line w ∷ ts) = Unit {0}
IsStep (Settle v ∷ ts) = Unit {0}
IsStep (AwaitClose k m w ∷ ts) = ⊥
IsStep (Pass k w ∷ ts) = ⊥
IsStep (AwaitSelect k w ∷ ts) = ⊥
IsStep (AwaitWork k ∷ ts) = ⊥
IsStep (AwaitDeselect k was ∷ ts) = ⊥

-- the path is no deeper than a bus may be, and each of its tasks has its place
pub record IsPlanned (route : RouteView) (tasks : List Task) : Type 0 where
  pub deep : length route.path ≤ MOST_DEPTH
  pub narrow : All IsNarrow route.path
  pub placed : IsPlaced (length route.path) tasks

-- the tasks of a walk, before its looks and with these answered: both end together
pub record IsWalk (route : RouteView) (tasks looked : List Task) : Type 0 where
  pub planned : IsPlanned route looked
  pub waits : IsReady tasks
  pub ready : IsReady looked
  pub none : tasks ≡ [] → looked ≡ []
  pub some : 0 < length tasks → 0 < length looked
