-- The looks in front of each caller's next action are answered by the lock words.
use Rattle.std.specs.Prelude.{◌≡◌, ℕ, List, Some, slice_get}
use Rattle.mux_plan.specs.Looks.{IsLooked}
use Rattle.mux_plan.specs.Plans.{slots_of}
use Rattle.seg_locks.specs.Locks.{LocksView}
use Rattle.core_laws.specs.Spots.{seen_of}
use Rattle.bus_core.specs.declared.seat.Seat.{Seat}

-- those of a caller
abbrev pub IsLookedAt : {C : Type 0} → LocksView → Seat C → Type 0
IsLookedAt v s = IsLooked (slots_of (seen_of v)) s.walk

-- those of all callers
abbrev pub AreLooked : {C : Type 0} → LocksView → List (Seat C) → Type 0
AreLooked v seats = (i : ℕ) (s : Seat _) → slice_get seats i ≡ Some s → IsLookedAt v s
