-- The whole of what is kept between two steps, over plain lists.
use Rattle.std.specs.Prelude.{◌≡◌, ◌⊎◌, ℕ, ◌-◌, ◌*◌, ◌<◌, ◌≤◌, Bool, true, false, not, IsTrue, List, [], ◌∷◌, ◌++◌, ◌+◌, length, map, take, Some, None, slice_get}
use Rattle.std.specs.List.{sum_by}
use Rattle.i2c_base.specs.declared.entry.Entry.{Entry}
use Rattle.i2c_base.specs.declared.errno.Errno.{Errno}
use Rattle.i2c_base.specs.declared.port.Phase.TheVariants.{Idle}
use Rattle.i2c_base.specs.declared.ids.LockId.{LockId}
use Rattle.i2c_base.specs.declared.reply.Reply.{Reply}
use Rattle.i2c_base.specs.declared.reply.Cut.{Cut}
use Rattle.i2c_base.specs.Board.{BoardView}
use Rattle.i2c_base.specs.Fitting.{Fits, FitsReads}
use Rattle.i2c_base.specs.Transfer.{TransferView}
use Rattle.i2c_spec.specs.Cost.{cost_of}
use Rattle.i2c_spec.specs.Plain.{IsPlainBoard}
use Rattle.i2c_spec.specs.Rules.{MeetsRules}
use Rattle.i2c_spec.specs.Tree.{root_of}
use Rattle.i2c_spec.specs.TreeFacts.{IsTree}
use Rattle.i2c_spec.specs.World.{after}
use Rattle.i2c_spec.specs.History.{Asks}
use Rattle.bus_spec.specs.Past.{line_call}
use Rattle.bus_spec.specs.Walk.{Job, Send, Shift, Settle, Sent, Lined, WalkTree, Ends, Then, job_bus}
use Rattle.bus_spec.specs.Grammar.{is_over, plain}
use Rattle.bus_laws.specs.Holds.{HoldsLocks}
use Rattle.bus_laws.specs.Lines.{LinesAreLocked}
use Rattle.bus_laws.specs.Reach.{AsksForMessages}
use Rattle.seg_locks.specs.Locks.{LocksView}
use Rattle.core_laws.specs.Spots.{Spot, IsTold, AreRooted}
use Rattle.bus_message.specs.Ports.{RootPort}
use Rattle.bus_message.specs.declared.message.MsgResult.{MsgResult}
use Rattle.core_laws.specs.Owed.{OwesUpTo, total}
use Rattle.core_laws.specs.Seats.{IsLeft}
use Rattle.mux_plan.specs.declared.task.NextMsg.{NextMsg}
use Rattle.core_laws.specs.Sends.{IsMessageOf}
use Rattle.core_laws.specs.Ports.{PortKept}
use Rattle.core_laws.specs.Steps.{next_of, HasSaid, GivesBytes, KeepsPort, AreMarked}
use Rattle.core_laws.specs.Table.{AreDistinct, TableKept}
use Rattle.mux_plan.specs.Plans.{SeenView}

-- a caller with its seat; after its settle its reply is owed, and it has read nothing more
pub record Place : Type 0 where
  pub number : ℕ
  pub taken : List Reply
  pub owed : List Reply
  pub transfer : TransferView
  pub tree : WalkTree
  pub sent : ℕ
  pub got : List ℕ
  pub cut : Cut

-- what the journal tells of it
abbrev pub spot_of : Place → Spot
spot_of p = record { number = p.number; tree = p.tree; taken = p.taken; owed = p.owed; got = p.got; cut = p.cut }

-- by place: the numbers, the walks, and what the journal tells
abbrev pub numbers_of : List Place → List ℕ
numbers_of places = map (λ p. p.number) places

abbrev pub trees_of : List Place → List WalkTree
trees_of places = map (λ p. p.tree) places

abbrev pub spots_of : List Place → List Spot
spots_of places = map spot_of places

-- the bytes that were read and are told once more with their reply
abbrev pub pending : List Place → ℕ
pending places = sum_by (λ p. length p.got) places

-- the walk has settled
abbrev pub has_reply : List Reply → Bool
has_reply [] = false
has_reply (r ∷ rs) = true

-- a refused transfer's walk: its lone settle
pub record IsLone (b : BoardView) (w : WalkTree) : Type 0 where
  pub errno : Errno
  pub is : w ≡ Then (Settle (Some errno)) plain (λ o. Ends)

-- what stays as it is while a core runs: its board, whether its ports tell, what each caller asks for after its replies and
-- what it has left then, and a bound of the callers' numbers
pub record Run : Type 0 where
  pub board : BoardView
  pub tells : Bool
  pub asks : Asks
  pub left : ℕ → List Reply → ℕ
  pub callers : ℕ

-- the board is as an accepted one is. Each transfer has a message and costs something, and with its reply what its caller
-- has left falls by that
pub record IsFairRun (run : Run) : Type 0 where
  pub tree : IsTree run.board
  pub plain : IsPlainBoard run.board
  pub rules : MeetsRules run.board
  pub lines : LinesAreLocked run.board
  pub sends : AsksForMessages run.asks
  pub costs : (c : ℕ) (rs : List Reply) (t : TransferView) → run.asks c rs ≡ Some t → 1 ≤ cost_of run.board t
  pub falls : (c : ℕ) (rs : List Reply) (t : TransferView) (r : Reply) → run.asks c rs ≡ Some t → Fits t r
      → run.left c (rs ++ r ∷ []) + cost_of run.board t ≤ run.left c rs

-- where all stand between two steps: the journal, the newest entry first, with the room that it has left for entries and
-- for their bytes; by place the callers, the locks that each has, the last one taken first, and what each owes; the lock
-- words, and the ports
pub record Whole : Type 0 where
  pub past : List Entry
  pub room : ℕ
  pub room_bytes : ℕ
  pub places : List Place
  pub held : List (List LockId)
  pub owes : List ℕ
  pub locks : LocksView
  pub sockets : List RootPort

-- who stands at a place, the locks that it has, and what it owes
pub record StandsAt (whole : Whole) (place : ℕ) (p : Place) (ls : List LockId) (n : ℕ) : Type 0 where
  pub here : slice_get whole.places place ≡ Some p
  pub holding : slice_get whole.held place ≡ Some ls
  pub owing : slice_get whole.owes place ≡ Some n

-- what a seat keeps while its walk goes on
pub record IsGoing (run : Run) (p : Place) (n : ℕ) : Type 0 where
  pub asked : run.asks p.number p.taken ≡ Some p.transfer
  pub is_left : IsLeft run.board p.transfer (has_reply p.owed) p.sent p.tree ⊎ (IsLone run.board p.tree × (p.owed ≡ []))
  pub partway : p.owed ≡ [] → FitsReads (take p.sent p.transfer.msgs) p.got
  pub emptied : has_reply p.owed ≡ true → p.got ≡ []
  pub fits : (r : Reply) → p.owed ≡ r ∷ [] → Fits p.transfer r
  pub owes : OwesUpTo run.board p.tree (not (has_reply p.owed)) (run.left p.number p.taken - cost_of run.board p.transfer) n

-- what a seat keeps: its walk is over only where its caller asks for nothing more and was handed all its replies
pub record SeatKept (run : Run) (p : Place) (ls : List LockId) (n : ℕ) : Type 0 where
  pub over : is_over p.tree ≡ true → (run.asks p.number p.taken ≡ None) × (p.owed ≡ [])
  pub going : is_over p.tree ≡ false → IsGoing run p n
  pub holds : HoldsLocks run.board ls p.tree

-- what is kept between two steps, over ports that tell nothing too; what the journal tells is so where they tell
pub record CoreKept (run : Run) (whole : Whole) : Type 0 where
  pub distinct : AreDistinct (numbers_of whole.places)
  pub below : (i : ℕ) (p : Place) → slice_get whole.places i ≡ Some p → p.number < run.callers
  pub once : AreRooted whole.sockets
  pub counted : length whole.owes ≡ length whole.places
  pub seats : (i : ℕ) (p : Place) (ls : List LockId) (n : ℕ) → StandsAt whole i p ls n → SeatKept run p ls n
  pub table : TableKept run.board whole.locks (numbers_of whole.places) whole.held
  pub sockets_kept : (k : ℕ) (y : RootPort) → slice_get whole.sockets k ≡ Some y
      → PortKept run.board run.tells (total whole.owes) (trees_of whole.places) y
  -- the journal has room for all entries that are owed, and for their bytes and those that were read
  pub room_left : total whole.owes ≤ whole.room
  pub bytes_left : 2 * total whole.owes + pending whole.places ≤ whole.room_bytes
  pub told : IsTrue run.tells → IsTold run.board run.callers run.asks whole.past (spots_of whole.places) whole.locks whole.sockets None

-- a message comes next of a caller's walk, and was sent over the port at a place
pub record IsSent (run : Run) (whole : Whole) (p : Place) (job : Job) (more : ℕ) (next : NextMsg) (at : ℕ) (old new : RootPort)
    (bytes : List ℕ) (msg : MsgResult) (words : SeenView) : Type 0 where
  pub first : next_of whole.locks p.tree ≡ Some (Send job more)
  pub of : IsMessageOf job more next
  pub port : slice_get whole.sockets at ≡ Some old
  pub keeps : KeepsPort run.board run.tells job more bytes msg.end old new
  pub gives : GivesBytes run.board p.transfer p.sent next bytes msg
  pub shows : IsTrue run.tells → HasSaid run.board p.transfer p.sent next old new bytes msg
  pub marked : AreMarked run.board p.tree whole.locks (Sent msg.end bytes) words

-- a line step comes next of it, and was done there
pub record IsShifted (run : Run) (whole : Whole) (p : Place) (job : Job) (at : ℕ) (old new : RootPort) (failed : Bool)
    (words : SeenView) : Type 0 where
  pub first : next_of whole.locks p.tree ≡ Some (Shift job)
  pub port : slice_get whole.sockets at ≡ Some old
  pub rooted : old.root ≡ root_of run.board (job_bus job)
  pub root : new.root ≡ old.root
  pub idle : new.phase ≡ Idle
  pub shows : IsTrue run.tells → (new.world ≡ after old.world (line_call job failed)) × (new.log ≡ old.log ++ line_call job failed ∷ [])
  pub marked : AreMarked run.board p.tree whole.locks (Lined failed) words
