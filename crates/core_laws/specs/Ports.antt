-- What is kept of a port: it may start a message, it is idle or a caller is inside it, and its log has room.
use Rattle.std.specs.Prelude.{◌≡◌, ◌⊎◌, ℕ, ◌+◌, ◌*◌, ◌≤◌, Bool, IsTrue, List, length, Some, slice_get}
use Rattle.i2c_base.specs.declared.ids.LockId.{LockId}
use Rattle.i2c_base.specs.declared.port.Phase.TheVariants.{Idle}
use Rattle.i2c_base.specs.Limits.{MOST_CALLS}
use Rattle.i2c_base.specs.Phases.{MayStart}
use Rattle.i2c_base.specs.Board.{BoardView}
use Rattle.i2c_spec.specs.Tree.{root_of}
use Rattle.i2c_spec.specs.Messages.{MessageView}
use Rattle.bus_spec.specs.Walk.{Call, Send, WalkTree}
use Rattle.bus_spec.specs.Grammar.{first_act}
use Rattle.bus_laws.specs.Holds.{HoldsLocks}
use Rattle.bus_message.specs.Ports.{RootPort}

-- a message of the caller's comes next on this root, whatever is known of the buses
pub record IsInside (b : BoardView) (w : WalkTree) (root : ℕ) : Type 0 where
  pub bus : ℕ
  pub messages : List MessageView
  pub left : ℕ
  pub first : first_act w ≡ Some (Send (Call bus messages) left)
  pub on_root : root_of b bus ≡ root

-- a port is idle, or some caller is inside it
abbrev pub IsFree : BoardView → List WalkTree → RootPort → Type 0
IsFree b trees x = (x.phase ≡ Idle) ⊎ ((i : ℕ) × (w : WalkTree) × (slice_get trees i ≡ Some w) × IsInside b w x.root)

-- a message may start on a port; where it tells, its log has room for the calls of all that is owed
pub record PortKept (b : BoardView) (tells : Bool) (owed : ℕ) (trees : List WalkTree) (x : RootPort) : Type 0 where
  pub start : MayStart x.phase
  pub free : IsFree b trees x
  pub short : IsTrue tells → length x.log + 2 * owed ≤ MOST_CALLS

-- the walk at a place, its caller's number and what it holds
pub record HoldsAt (b : BoardView) (numbers : List ℕ) (held : List (List LockId)) (i : ℕ) (w : WalkTree) : Type 0 where
  pub number : ℕ
  pub locks : List LockId
  pub numbered : slice_get numbers i ≡ Some number
  pub here : slice_get held i ≡ Some locks
  pub holds : HoldsLocks b locks w
