-- What the journal tells of all callers and of the lock words.
use Rattle.std.specs.Prelude.{◌≡◌, ℕ, ◌<◌, List, ◌++◌, length, reverse, Option, Some, None, slice_get, slice_index_or}
use Rattle.i2c_base.specs.declared.entry.Entry.{Entry}
use Rattle.i2c_base.specs.declared.ids.LockId.{LockId}
use Rattle.i2c_base.specs.declared.reply.Reply.{Reply}
use Rattle.i2c_base.specs.declared.reply.Cut.{Cut}
use Rattle.i2c_base.specs.Board.{BoardView}
use Rattle.i2c_spec.specs.History.{Asks}
use Rattle.i2c_spec.specs.Tree.{buses, home_of_mux}
use Rattle.bus_spec.specs.Walk.{WalkTree}
use Rattle.bus_spec.specs.Slots.{Slots, mark_in}
use Rattle.bus_spec.specs.Past.{Now, now}
use Rattle.bus_spec.specs.Stepwise.{IsStepwise}
use Rattle.bus_laws.specs.Others.{CallerTold}
use Rattle.bus_laws.specs.Holds.{IsLockOf}
use Rattle.mux_plan.specs.Plans.{SeenView}
use Rattle.bus_message.specs.Ports.{RootPort}
use Rattle.seg_locks.specs.Locks.{LocksView, holder_in}

-- a caller: its number, what is left of its walk, its replies, those that it is still to be handed, what was read, and a cut
pub record Spot : Type 0 where
  pub number : ℕ
  pub tree : WalkTree
  pub taken : List Reply
  pub owed : List Reply
  pub got : List ℕ
  pub cut : Cut

-- the journal tells this of a caller
abbrev pub SpotTold : BoardView → Asks → Now → Spot → Type 0
SpotTold b asks n x = CallerTold b asks n x.number x.tree (x.taken ++ x.owed) x.got x.cut

-- what these lock words tell of marks and of kept channels, and the lock words that tell this
abbrev pub seen_of : LocksView → SeenView
seen_of v = record { marks = v.marks; kept = v.kept }

abbrev pub turned_to : LocksView → SeenView → LocksView
turned_to v s = record v { marks = s.marks; kept = s.kept }

-- these channels, by mux, tell what is known of the bus of each
abbrev pub TellsKept : BoardView → Slots → List (Option ℕ) → Type 0
TellsKept b v kept = (m : ℕ) → (v (home_of_mux b m)).kept m ≡ slice_index_or kept m None

-- the journal tells the holders, the marks and the kept channels of these lock words
pub record LocksTold (b : BoardView) (n : Now) (v : LocksView) : Type 0 where
  pub roots : length v.roots ≡ length b.roots
  pub muxes : length v.buses ≡ buses b
  pub holder : (l : LockId) → IsLockOf b l → holder_in v l ≡ n.holder l
  pub mark : (p : ℕ) → mark_in (n.slot p).slot ≡ slice_index_or v.marks p None
  pub kept : TellsKept b n.slot v.kept

-- the journal tells the world and the calls of a port
pub record PortTold (n : Now) (x : RootPort) : Type 0 where
  pub world : x.world ≡ n.worlds x.root
  pub log : x.log ≡ reverse (n.calls x.root)

-- who settles next: nobody between two steps, the caller of a message that decides after that message
pub record IsTold (b : BoardView) (callers : ℕ) (asks : Asks) (past : List Entry) (spots : List Spot) (v : LocksView)
    (sockets : List RootPort) (due : Option ℕ) : Type 0 where
  pub stepwise : IsStepwise b callers asks past
  pub rests : (now b asks past).due ≡ due
  pub spots_told : (i : ℕ) (x : Spot) → slice_get spots i ≡ Some x → SpotTold b asks (now b asks past) x
  pub locks_told : LocksTold b (now b asks past) v
  pub ports_told : (k : ℕ) (x : RootPort) → slice_get sockets k ≡ Some x → PortTold (now b asks past) x

-- no two ports have one root
abbrev pub AreRooted : List RootPort → Type 0
AreRooted sockets = (i k : ℕ) (x y : RootPort) → slice_get sockets i ≡ Some x → slice_get sockets k ≡ Some y → x.root ≡ y.root → i ≡ k

-- no two callers have one number, and each is below so many
pub record AreNumbered (callers : ℕ) (spots : List Spot) : Type 0 where
  pub below : (i : ℕ) (x : Spot) → slice_get spots i ≡ Some x → x.number < callers
  pub once : (i k : ℕ) (x y : Spot) → slice_get spots i ≡ Some x → slice_get spots k ≡ Some y → x.number ≡ y.number → i ≡ k
