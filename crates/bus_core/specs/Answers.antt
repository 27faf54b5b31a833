-- What a core answers, by its state.
use Rattle.std.specs.Prelude.{◌≡◌, ℕ, ◌<◌, Bool, true, IsTrue, List, reverse, Option, Some, None, slice_get}
use Rattle.i2c_base.specs.declared.ids.LockId.{LockId}
use Rattle.i2c_base.specs.declared.reply.Reply.{Reply}
use Rattle.i2c_base.specs.Transfer.{TransferView}
use Rattle.bus_laws.specs.Ready.{IsStuck}
use Rattle.bus_spec.specs.Readings.{holder as holder_of}
use Rattle.bus_spec.specs.Stepwise.{IsNext}
use Rattle.bus_spec.specs.Walk.{Take, Ends}
use Rattle.seg_locks.specs.Locks.{holder_in}
use Rattle.bus_core.specs.Kept.{HasTurn}
use Rattle.bus_core.specs.State.{CoreState, asks_in_state, now_in, has_caller}

-- by the journal this caller waits for a lock that somebody has, or has finished
abbrev pub IsStuckIn : {S : Type 0} → (S → List Reply → Option TransferView) → CoreState S → ℕ → Type 0
IsStuckIn asked v caller = IsStuck v.opening.board (asks_in_state asked v) (reverse v.journal.entries) caller

-- this caller made a step: the journal has less room, and over ports that tell it has one step of this caller's more,
-- which may come there
pub record HasAdded {S : Type 0} (asked : S → List Reply → Option TransferView) (tells : Bool) (caller : ℕ)
    (old new : CoreState S) : Type 0 where
  pub room : new.journal.room < old.journal.room
  pub turn : IsTrue tells → HasTurn old.opening.board (asks_in_state asked old) caller old.journal.entries new.journal.entries

-- this caller takes this lock next, which another has, by the lock words and by the journal
pub record WaitsFor {S : Type 0} (asked : S → List Reply → Option TransferView) (tells : Bool) (v : CoreState S) (caller : ℕ) (l : LockId)
    (holder : ℕ) : Type 0 where
  pub another : holder ≡ caller → ⊥
  pub held : holder_in v.locks l ≡ Some holder
  pub told : IsTrue tells → holder_of (reverse v.journal.entries) l ≡ Some holder
  pub next : IsTrue tells → IsNext v.opening.board (asks_in_state asked v) (now_in asked v) caller (Take l)

-- after the replies that it was handed, this caller asks for nothing
abbrev pub HasUsedUp : {S : Type 0} → (S → List Reply → Option TransferView) → CoreState S → ℕ → Type 0
HasUsedUp asked v caller = (i : ℕ) (taken : List Reply) → slice_get v.taken i ≡ Some (caller, taken)
    → asks_in_state asked v caller taken ≡ None

-- by the journal this caller's walk has ended, and it asks for nothing more
pub record IsOverIn {S : Type 0} (asked : S → List Reply → Option TransferView) (v : CoreState S) (caller : ℕ) : Type 0 where
  pub walk : (now_in asked v).walk caller ≡ Ends
  pub asks : asks_in_state asked v caller ((now_in asked v).settled caller) ≡ None

-- this caller can make a step, and none below it can
pub record IsLeast {S : Type 0} (asked : S → List Reply → Option TransferView) (tells : Bool) (v : CoreState S) (caller : ℕ) : Type 0 where
  pub has : has_caller v.opening.scripts caller ≡ true
  pub can : IsTrue tells → IsStuckIn asked v caller → ⊥
  pub before : IsTrue tells → (d : ℕ) → d < caller → IsStuckIn asked v d
