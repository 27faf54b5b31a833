-- Marks and kept channels that may be written.
use Rattle.std.specs.Prelude.{◌≡◌, ℕ, ◌<◌, List, length, Some}
use Rattle.std.specs.List.{AllByRecursion}
use Rattle.i2c_base.specs.declared.ids.LockId.TheVariants as lock
use Rattle.mux_plan.specs.declared.marks.MuxUpdate.{MuxUpdate}
use Rattle.mux_plan.specs.Plans.{SeenView}
use Rattle.mux_plan.specs.Marks.{applied, applied_kept}
use Rattle.seg_locks.specs.Locks.{LocksView, holder_in}

-- the bus of a mark is there, and the caller has its lock
pub record IsHeldDue (v : LocksView) (caller : ℕ) (d : MuxUpdate) : Type 0 where
  pub there : d.on < length v.depths
  pub held : holder_in v (lock.Mux d.on) ≡ Some caller

abbrev pub AreHeld : LocksView → ℕ → List MuxUpdate → Type 0
AreHeld v caller updates = AllByRecursion (IsHeldDue v caller) updates

-- what lock words tell with these changes
abbrev pub words_after : List MuxUpdate → SeenView → SeenView
words_after updates s = record { marks = applied updates s.marks; kept = applied_kept updates s.kept }
