-- What a step of one caller on one port shows, over plain data.
use Rattle.std.specs.Prelude.{◌≡◌, ◌⊎◌, ℕ, suc, ◌+◌, ◌≤◌, Bool, true, false, IsTrue, List, [], ◌∷◌, ◌++◌, length, Option, Some}
use Rattle.i2c_base.specs.declared.entry.End.{End}
use Rattle.i2c_base.specs.declared.entry.End.TheVariants as end
use Rattle.i2c_base.specs.declared.port.Phase.TheVariants.{Idle}
use Rattle.i2c_base.specs.Phases.{MayStart}
use Rattle.i2c_base.specs.Board.{BoardView}
use Rattle.i2c_base.specs.Transfer.{TransferView}
use Rattle.i2c_spec.specs.Tree.{buses, root_of}
use Rattle.i2c_spec.specs.Messages.{MessageView, messages_of}
use Rattle.i2c_spec.specs.World.{after}
use Rattle.i2c_spec.specs.Flat.{block_limit}
use Rattle.i2c_spec.specs.History.{Asks}
use Rattle.bus_spec.specs.Walk.{Job, Call, Act, Send, Shift, ActOutcome, WalkTree, job_bus, is_last}
use Rattle.bus_spec.specs.Slots.{Slots}
use Rattle.bus_spec.specs.Grammar.{seen, first_act, first_note, rest_of}
use Rattle.bus_spec.specs.Past.{line_call}
use Rattle.mux_plan.specs.Plans.{SeenView, slots_of, slots_after, TellsMarks}
use Rattle.seg_locks.specs.Locks.{LocksView}
use Rattle.core_laws.specs.Spots.{seen_of, TellsKept, Spot}
use Rattle.bus_message.specs.Ports.{RootPort}
use Rattle.bus_message.specs.Talks.{Gives}
use Rattle.bus_message.specs.declared.message.MsgResult.{MsgResult}
use Rattle.core_laws.specs.Owed.{message_most}
use Rattle.mux_plan.specs.declared.task.NextMsg.{NextMsg}
use Rattle.core_laws.specs.Sends.{IsMessageOf}
use Rattle.bus_message.specs.Sends.{IsChipAddress, HasSent, message_for}
use Rattle.mux_plan.specs.Plans.{ends_with}

-- what comes next of a walk, where lock words answer its looks
abbrev pub next_of : LocksView → WalkTree → Option Act
next_of v w = first_act (seen (slots_of (seen_of v)) w)

-- .. and what is left behind it
abbrev pub behind_of : LocksView → WalkTree → ActOutcome → WalkTree
behind_of v w out = rest_of (seen (slots_of (seen_of v)) w) out

-- the message of a job was sent on the root of this socket; the caller's own is one of this transfer, of which so many went through
pub record IsSaid (b : BoardView) (asks : Asks) (x : Spot) (v : LocksView) (t : TransferView) (gone : ℕ) (job : Job) (left : ℕ)
    (next : NextMsg) (old new : RootPort)
    (bytes : List ℕ) (msg : MsgResult) : Type 0 where
  pub first : next_of v x.tree ≡ Some (Send job left)
  pub of : IsMessageOf job left next
  pub rooted : old.root ≡ root_of b (job_bus job)
  pub whose : (bus : ℕ) (ms : List MessageView) → job ≡ Call bus ms
      → (asks x.number (x.taken ++ x.owed) ≡ Some t) × (bus ≡ t.bus) × (ms ≡ messages_of t) × (gone + suc left ≡ length ms)
  pub to_addr : msg.addr ≡ (message_for t gone next.purpose next.control msg.addr).addr
  pub in_direction : msg.reading ≡ (message_for t gone next.purpose next.control msg.addr).reading
  pub chip : IsChipAddress b next.purpose msg.addr
  pub has : HasSent b t next.purpose (message_for t gone next.purpose next.control msg.addr)
      (ends_with next.purpose next.part next.parts) old new bytes msg.heard msg.end

-- a line step was done there
pub record IsLined (b : BoardView) (x : Spot) (v : LocksView) (job : Job) (old new : RootPort) (failed : Bool) : Type 0 where
  pub first : next_of v x.tree ≡ Some (Shift job)
  pub rooted : old.root ≡ root_of b (job_bus job)
  pub root : new.root ≡ old.root
  pub world : new.world ≡ after old.world (line_call job failed)
  pub log : new.log ≡ old.log ++ line_call job failed ∷ []

-- the marks and the kept channels after a step
pub record AreMarked (b : BoardView) (w : WalkTree) (v : LocksView) (out : ActOutcome) (words : SeenView) : Type 0 where
  pub all : length words.marks ≡ buses b
  pub counted : length words.kept ≡ length b.muxes
  pub marked : (y : Slots) → TellsMarks y v.marks
      → TellsMarks (slots_after (next_of v w) (first_note (seen (slots_of (seen_of v)) w)) out y) words.marks
  pub kept : (y : Slots) → TellsKept b y v.kept
      → TellsKept b (slots_after (next_of v w) (first_note (seen (slots_of (seen_of v)) w)) out y) words.kept

-- what ports that tell show of a message
pub record HasSaid (b : BoardView) (t : TransferView) (gone : ℕ) (next : NextMsg) (old new : RootPort) (bytes : List ℕ)
    (msg : MsgResult) : Type 0 where
  pub to_addr : msg.addr ≡ (message_for t gone next.purpose next.control msg.addr).addr
  pub chip : IsChipAddress b next.purpose msg.addr
  pub has : HasSent b t next.purpose (message_for t gone next.purpose next.control msg.addr)
      (ends_with next.purpose next.part next.parts) old new bytes msg.heard msg.end

-- what every port gives by a message: it goes in its direction, and where it reads and went through it gives what it asks for
pub record GivesBytes (b : BoardView) (t : TransferView) (gone : ℕ) (next : NextMsg) (bytes : List ℕ)
    (msg : MsgResult) : Type 0 where
  pub direction : msg.reading ≡ (message_for t gone next.purpose next.control msg.addr).reading
  pub gives : msg.end ≡ end.Ok → msg.reading ≡ true
      → Gives (block_limit b) (message_for t gone next.purpose next.control msg.addr) bytes

-- what every port keeps over a message: it is idle where that was the last of its transfer or didn't go through. The
-- message moves no more bytes than it may
pub record KeepsPort (b : BoardView) (tells : Bool) (job : Job) (left : ℕ) (bytes : List ℕ) (e : End) (old new : RootPort) : Type 0 where
  pub rooted : old.root ≡ root_of b (job_bus job)
  pub root : new.root ≡ old.root
  pub start : MayStart new.phase
  pub idle : (new.phase ≡ Idle) ⊎ ((is_last job left ≡ false) × (e ≡ end.Ok))
  pub few : length bytes ≤ message_most b job left
  pub grows : IsTrue tells → length new.log ≤ length old.log + (message_most b job left + 2)
