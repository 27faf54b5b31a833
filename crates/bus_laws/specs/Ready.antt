-- Who can go on at a place of a journal, who waits for a lock, and who has finished.
use Rattle.std.specs.Prelude.{◌≡◌, ◌⊎◌, ℕ, ◌<◌, List, Some, None}
use Rattle.i2c_base.specs.declared.ids.LockId.{LockId}
use Rattle.i2c_base.specs.declared.entry.Entry.{Entry}
use Rattle.i2c_base.specs.Board.{BoardView}
use Rattle.i2c_spec.specs.History.{Asks}
use Rattle.bus_spec.specs.Walk.{Take}
use Rattle.bus_spec.specs.Grammar.{first_act}
use Rattle.bus_spec.specs.Readings.{caller_of, holder}
use Rattle.bus_spec.specs.Past.{current, now}
use Rattle.bus_spec.specs.Stepwise.{May, IsNext}

-- a caller has no step left
abbrev pub HasFinished : BoardView → Asks → List Entry → ℕ → Type 0
HasFinished b asks past c = first_act (current b asks (now b asks past) c) ≡ None

-- a caller waits for a lock that somebody has, or has finished
abbrev pub IsStuck : BoardView → Asks → List Entry → ℕ → Type 0
IsStuck b asks past c =
    ((l : LockId) × (h : ℕ) × IsNext b asks (now b asks past) c (Take l) × (holder past l ≡ Some h)) ⊎ HasFinished b asks past c

-- a caller has an entry that may come
pub record CanGoOn (b : BoardView) (callers : ℕ) (asks : Asks) (past : List Entry) (c : ℕ) : Type 0 where
  pub entry : Entry
  pub own : caller_of entry ≡ c
  pub may : May b callers asks (now b asks past) entry

-- all have finished, or some caller can go on
abbrev pub SomeCanGoOn : BoardView → ℕ → Asks → List Entry → Type 0
SomeCanGoOn b callers asks past =
    ((c : ℕ) → c < callers → HasFinished b asks past c) ⊎ ((c : ℕ) × CanGoOn b callers asks past c)
