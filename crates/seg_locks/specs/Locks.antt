-- The lock words of a board as plain data: who has each lock, the mark of each bus, and what each mux has open.
use Rattle.std.specs.Prelude.{⊤, ◌≡◌, ℕ, ◌+◌, ◌<◌, ◌≤◌, List, length, Option, Some, None, replicate, set, slice_index_or}
use Rattle.i2c_base.specs.Limits.{MOST_DEPTH}
use Rattle.i2c_base.specs.declared.ids.LockId.{LockId}
use Rattle.i2c_base.specs.declared.ids.LockId.TheVariants as lock

-- how many muxes stand over each bus; who has the lock of each root and that of the muxes on each bus; the mark of each
-- bus, a mux on it that may be open; and the channel that each mux keeps open
pub record LocksView : Type 0 where
  pub depths : List ℕ
  pub roots : List (Option ℕ)
  pub buses : List (Option ℕ)
  pub marks : List (Option ℕ)
  pub kept : List (Option ℕ)

-- nobody has a lock, no bus is marked, and no mux has a channel open
abbrev pub opened : List ℕ → ℕ → ℕ → LocksView
opened depths roots muxes =
    record {
      depths = depths;
      roots = replicate roots None;
      buses = replicate (length depths) None;
      marks = replicate (length depths) None;
      kept = replicate muxes None;
    }

-- no bus has more than four muxes over it
abbrev pub IsDepth : ℕ → Type 0
IsDepth depth = depth ≤ MOST_DEPTH

-- the lock of a root, or of the muxes on a bus that is there
abbrev pub IsLockIn : LocksView → LockId → Type 0
IsLockIn v (lock.Bus root) = root < length v.roots
IsLockIn v (lock.Mux bus) = bus < length v.depths

abbrev pub IsMuxLock : LockId → Type 0
IsMuxLock (lock.Bus root) = ⊥
IsMuxLock (lock.Mux bus) = ⊤

abbrev pub holder_in : LocksView → LockId → Option ℕ
holder_in v (lock.Bus root) = slice_index_or v.roots root None
holder_in v (lock.Mux bus) = slice_index_or v.buses bus None

-- the lock of a root has no mark
abbrev pub mark_at : LocksView → LockId → Option ℕ
mark_at v (lock.Bus root) = None
mark_at v (lock.Mux bus) = slice_index_or v.marks bus None

-- a mux that isn't there keeps no channel
abbrev pub kept_by : LocksView → ℕ → Option ℕ
kept_by v mux = slice_index_or v.kept mux None

-- locks are taken in falling rank, so towards the root
abbrev pub rank_in : LocksView → LockId → ℕ
rank_in v (lock.Bus root) = 0
rank_in v (lock.Mux bus) = slice_index_or v.depths bus 0 + 1

-- the lock has a lower rank than each that the caller has
abbrev pub IsBelowHeld : LocksView → ℕ → LockId → Type 0
IsBelowHeld v caller l = (k : LockId) → holder_in v k ≡ Some caller → rank_in v l < rank_in v k

-- one holder, one mark, or the channel of one mux, is another one, and all else stays
abbrev pub with_holder : LocksView → LockId → Option ℕ → LocksView
with_holder v (lock.Bus root) who = record v { roots = set v.roots root who }
with_holder v (lock.Mux bus) who = record v { buses = set v.buses bus who }

abbrev pub with_mark : LocksView → LockId → Option ℕ → LocksView
with_mark v (lock.Bus root) mark = v
with_mark v (lock.Mux bus) mark = record v { marks = set v.marks bus mark }

abbrev pub with_kept : LocksView → ℕ → Option ℕ → LocksView
with_kept v mux channel = record v { kept = set v.kept mux channel }
