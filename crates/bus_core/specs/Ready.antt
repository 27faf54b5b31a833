-- Who can make a step, by memory alone.
use Rattle.std.specs.Prelude.{◌≡◌, ℕ, ◌<◌, List, Option, Some, None, slice_get}
use Rattle.i2c_base.specs.declared.ids.LockId.{LockId}
use Rattle.bus_spec.specs.Walk.{Act, Take}
use Rattle.bus_laws.specs.Waiting.{IsHeldUp}
use Rattle.core_laws.specs.Steps.{next_of}
use Rattle.mux_plan.specs.Plans.{slots_of}
use Rattle.seg_locks.specs.Locks.{holder_in}
use Rattle.bus_core.specs.Places.{walk_left}
use Rattle.bus_core.specs.declared.parts.CoreInside.{CoreInside}
use Rattle.bus_core.specs.declared.seat.Seat.{Seat}
use Rattle.core_laws.specs.Spots.{seen_of}

-- the walk of the caller at a place has ended, or takes a lock that somebody has
pub record IsHeldUpAt {P C : Type 0} (x : CoreInside P C) (place : ℕ) : Type 0 where
  pub seat : Seat C
  pub here : slice_get x.seats.items place ≡ Some seat
  pub waits : IsHeldUp (holder_in x.locks) (slots_of (seen_of x.locks)) (walk_left seat)

-- it has a step, and where that takes a lock nobody has it
pub record CanStepAt {P C : Type 0} (x : CoreInside P C) (place : ℕ) : Type 0 where
  pub seat : Seat C
  pub here : slice_get x.seats.items place ≡ Some seat
  pub act : Act
  pub next : next_of x.locks (walk_left seat) ≡ Some act
  pub free : (l : LockId) → act ≡ Take l → holder_in x.locks l ≡ None

-- the caller of this number is held up, if there is one
abbrev pub IsCallerHeldUp : {P C : Type 0} → CoreInside P C → ℕ → Type 0
IsCallerHeldUp x n = (place : ℕ) → slice_get x.places.items n ≡ Some (Some place) → IsHeldUpAt x place

-- every caller below this number is held up
abbrev pub AreHeldUpBelow : {P C : Type 0} → CoreInside P C → ℕ → Type 0
AreHeldUpBelow x n = (m : ℕ) → m < n → IsCallerHeldUp x m

-- the least caller that can make a step: every caller below it is held up
pub record IsLeastReady {P C : Type 0} (x : CoreInside P C) (n : ℕ) : Type 0 where
  pub place : ℕ
  pub at : slice_get x.places.items n ≡ Some (Some place)
  pub can : CanStepAt x place
  pub before : AreHeldUpBelow x n

-- all callers are held up
abbrev pub AllHeldUp : {P C : Type 0} → CoreInside P C → Type 0
AllHeldUp x = (n : ℕ) → IsCallerHeldUp x n

-- there is a caller of this number
pub record HasPlace (places : List (Option ℕ)) (n : ℕ) : Type 0 where
  pub place : ℕ
  pub at : slice_get places n ≡ Some (Some place)
