-- Who waits for whom, told by memory alone: the walks by place, the locks that each holds, and a table of holders.
use Rattle.std.specs.Prelude.{◌≡◌, ◌⊎◌, ℕ, List, length, Option, Some, None, slice_get}
use Rattle.i2c_base.specs.declared.ids.LockId.{LockId}
use Rattle.i2c_base.specs.Board.{BoardView}
use Rattle.bus_spec.specs.Walk.{Take, WalkTree}
use Rattle.bus_spec.specs.Slots.{Slots, mark_in}
use Rattle.bus_spec.specs.Grammar.{seen, first_act}
use Rattle.bus_laws.specs.Runs.{InLocks}
use Rattle.bus_laws.specs.Holds.{IsMarkOn, HoldsLocks}

-- each walk holds its locks, and the table of holders is of these
pub record LocksKept (b : BoardView) (trees : List WalkTree) (held : List (List LockId)) (numbers : List ℕ) (holder : LockId → Option ℕ)
    (v : Slots) : Type 0 where
  pub counted : length held ≡ length trees
  pub marks : (p : ℕ) → IsMarkOn b p (mark_in (v p).slot)
  pub holds : (i : ℕ) (w : WalkTree) (ls : List LockId) → slice_get trees i ≡ Some w → slice_get held i ≡ Some ls → HoldsLocks b ls w
  -- whoever the table names has the lock among its own
  pub has : (l : LockId) (c : ℕ) → holder l ≡ Some c
      → (i : ℕ) × (ls : List LockId) × (slice_get held i ≡ Some ls) × (slice_get numbers i ≡ Some c) × InLocks l ls

-- the walk at a place has ended, or takes a lock that the table says somebody has
abbrev pub IsHeldUp : (LockId → Option ℕ) → Slots → WalkTree → Type 0
IsHeldUp holder v w = (first_act (seen v w) ≡ None)
    ⊎ ((l : LockId) × (c : ℕ) × (first_act (seen v w) ≡ Some (Take l)) × (holder l ≡ Some c))
