-- What keeps the caller at a place from a step.
use Rattle.std.specs.Prelude.{◌≡◌, ℕ, true, Some, slice_get}
use Rattle.i2c_base.specs.declared.ids.LockId.{LockId}
use Rattle.bus_spec.specs.Grammar.{is_over}
use Rattle.bus_spec.specs.Walk.{Take}
use Rattle.seg_locks.specs.Locks.{holder_in}
use Rattle.bus_core.specs.Kept.{ComesAt}
use Rattle.bus_core.specs.Places.{walk_left}
use Rattle.bus_core.specs.declared.parts.CoreInside.{CoreInside}
use Rattle.bus_core.specs.declared.seat.Seat.{Seat}

-- it takes this lock next, and this caller has it
pub record IsBlockedAt {P C : Type 0} (x : CoreInside P C) (place : ℕ) (l : LockId) (holder : ℕ) : Type 0 where
  pub comes : ComesAt x place (Take l)
  pub held : holder_in x.locks l ≡ Some holder

-- its walk is over
pub record HasEndedAt {P C : Type 0} (x : CoreInside P C) (place : ℕ) : Type 0 where
  pub seat : Seat C
  pub here : slice_get x.seats.items place ≡ Some seat
  pub over : is_over (walk_left seat) ≡ true
