-- Who holds which lock, by place, and the table of lock words that tells the same.
use Rattle.std.specs.Prelude.{◌≡◌, ℕ, List, length, Some, None, slice_get, slice_index_or}
use Rattle.i2c_base.specs.declared.ids.LockId.{LockId}
use Rattle.i2c_base.specs.Board.{BoardView}
use Rattle.i2c_spec.specs.Tree.{buses}
use Rattle.bus_laws.specs.Runs.{InLocks}
use Rattle.bus_spec.specs.Readings.{rank}
use Rattle.bus_laws.specs.Holds.{IsLockOf, IsMarkOn}
use Rattle.bus_laws.specs.Stands.{IsOnce}
use Rattle.seg_locks.specs.Locks.{LocksView, holder_in, rank_in}

-- no number stands twice
abbrev pub AreDistinct : List ℕ → Type 0
AreDistinct numbers = (i k n : ℕ) → slice_get numbers i ≡ Some n → slice_get numbers k ≡ Some n → i ≡ k

-- the caller of this number has the lock among its own
pub record IsHeldBy (numbers : List ℕ) (held : List (List LockId)) (l : LockId) (c : ℕ) : Type 0 where
  pub place : ℕ
  pub locks : List LockId
  pub here : slice_get held place ≡ Some locks
  pub number : slice_get numbers place ≡ Some c
  pub among : InLocks l locks

-- the lock words are the board's, and tell the same as the lists of what is held by place
pub record TableKept (b : BoardView) (v : LocksView) (numbers : List ℕ) (held : List (List LockId)) : Type 0 where
  pub counted : length held ≡ length numbers
  pub roots : length v.roots ≡ length b.roots
  pub muxes : length v.buses ≡ buses b
  pub marked : length v.marks ≡ buses b
  pub kept : length v.kept ≡ length b.muxes
  pub deep : length v.depths ≡ buses b
  pub ranked : (l : LockId) → IsLockOf b l → rank_in v l ≡ rank b l
  pub named : (l : LockId) (c : ℕ) → holder_in v l ≡ Some c → IsHeldBy numbers held l c
  pub has : (i : ℕ) (ls : List LockId) (c : ℕ) → slice_get held i ≡ Some ls → slice_get numbers i ≡ Some c → (l : LockId) → InLocks l ls
      → holder_in v l ≡ Some c
  pub once : (i : ℕ) (ls : List LockId) → slice_get held i ≡ Some ls → IsOnce ls
  pub home : (p : ℕ) → IsMarkOn b p (slice_index_or v.marks p None)
