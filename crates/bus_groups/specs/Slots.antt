-- What a run leaves of the core of a group.
use Rattle.std.specs.Prelude.{◌≡◌, ℕ, Bool, IsTrue, List, reverse, Option, Some, None, slice_get}
use Rattle.i2c_base.specs.declared.reply.Reply.{Reply}
use Rattle.i2c_base.specs.Transfer.{TransferView}
use Rattle.bus_spec.specs.Stepwise.{IsStepwise}
use Rattle.i2c_base.specs.declared.port.PortCall.{PortCall}
use Rattle.i2c_base.specs.Limits.{MOST_CALLERS}
use Rattle.i2c_spec.specs.World.{World}
use Rattle.bus_core.specs.State.{CoreState, CoreTold, AllThrough, asks_in_state, now_in, roots_in}

-- what is told of a core that was taken apart: all but its lock words, which are gone
pub record IsTold {S : Type 0} (asked : S → List Reply → Option TransferView) (v : CoreState S) : Type 0 where
  pub stepwise : IsStepwise v.opening.board MOST_CALLERS (asks_in_state asked v) (reverse v.journal.entries)
  pub rests : (now_in asked v).due ≡ None
  pub worlds : (k r : ℕ) (w : World) → slice_get v.worlds k ≡ Some (r, w) → w ≡ (now_in asked v).worlds r
  pub logs : (k r : ℕ) (log : List PortCall) → slice_get v.logs k ≡ Some (r, log) → log ≡ reverse ((now_in asked v).calls r)

-- a core ran to its end: it was opened with the same, has the same ports, and each script is used up
pub record CameThrough {S : Type 0} (asked : S → List Reply → Option TransferView) (tells : Bool) (old new : CoreState S) : Type 0 where
  pub opening : new.opening ≡ old.opening
  pub roots : roots_in new ≡ roots_in old
  pub told : IsTrue tells → CoreTold asked new
  pub through : AllThrough asked tells new

-- the core of a slot ran, where there is one
abbrev pub HasRun : {S : Type 0} → (S → List Reply → Option TransferView) → Bool → Option (CoreState S) → Option (CoreState S) → Type 0
HasRun asked tells None new = new ≡ None
HasRun asked tells (Some old) None = ⊥
HasRun asked tells (Some old) (Some new) = CameThrough asked tells old new
