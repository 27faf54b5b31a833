-- What every stepwise past keeps: the walks of all callers run from what they know, what they know is so, and the
-- worlds are as the journal tells. It is kept by one step.
use Rattle.std.specs.Prelude.{◌≡◌, ℕ, List, [], ◌∷◌, Option, Some, None}
use Rattle.i2c_base.specs.declared.ids.LockId.{LockId}
use Rattle.i2c_base.specs.declared.ids.LockId.TheVariants as lock
use Rattle.i2c_base.specs.Board.{BoardView}
use Rattle.i2c_base.specs.Transfer.{TransferView}
use Rattle.i2c_spec.specs.World.{World}
use Rattle.bus_spec.specs.Walk.{WalkTree}
use Rattle.bus_spec.specs.Slots.{Slots}
use Rattle.bus_spec.specs.Past.{Now}
use Rattle.bus_laws.specs.Runs.{Runs, InLocks, IsRest}
use Rattle.bus_laws.specs.Told.{WorldTold}

-- a caller knows of each bus whose lock it holds what the journal tells
pub record CallerStands (b : BoardView) (held : List LockId) (walk : WalkTree) (slots : Slots) : Type 0 where
  pub whose : TransferView
  pub view : Slots
  pub runs : Runs b whose held view walk
  pub agree : (p : ℕ) → InLocks (lock.Mux p) held → view p ≡ slots p

-- no lock twice
abbrev pub IsOnce : List LockId → Type 0
IsOnce [] = Unit {0}
IsOnce (l ∷ ls) = (InLocks l ls → ⊥) × IsOnce ls

-- what is left of each walk, the locks of each caller, who has each lock, what is known of each bus, and the worlds
pub record StandsIn (b : BoardView) (walk : ℕ → WalkTree) (held : ℕ → List LockId) (holder : LockId → Option ℕ) (slot : Slots) (worlds : ℕ
    → World) : Type 0 where
  pub callers : (c : ℕ) → CallerStands b (held c) (walk c) slot
  -- whoever counts a lock among its own has it, and the other way
  pub holds : (c : ℕ) (l : LockId) → InLocks l (held c) → holder l ≡ Some c
  pub has : (c : ℕ) (l : LockId) → holder l ≡ Some c → InLocks l (held c)
  pub once : (c : ℕ) → IsOnce (held c)
  -- a bus whose lock nobody has is shut
  pub shut : (p : ℕ) → holder (lock.Mux p) ≡ None → IsRest b p (slot p)
  pub told : WorldTold b slot worlds

abbrev pub Stands : BoardView → Now → Type 0
Stands b n = StandsIn b n.walk n.held n.holder n.slot n.worlds
