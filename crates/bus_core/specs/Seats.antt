-- What the steps of a core leave of a seat.
use Rattle.std.specs.Prelude.{◌≡◌, ℕ, ◌+◌, ◌<◌, ◌≤◌, Bool, true, false, List, [], ◌∷◌, ◌++◌, length, set, Option, Some, None, IfSome, slice_get, if◌then◌else◌}
use Rattle.i2c_base.specs.Limits.{MOST_BYTES}
use Rattle.i2c_base.specs.declared.caller.Caller.{Ghosts as CallerGhosts}
use Rattle.i2c_base.specs.declared.entry.Entry.TheVariants as entry
use Rattle.i2c_base.specs.declared.entry.Purpose.{Purpose}
use Rattle.i2c_base.specs.declared.entry.Purpose.TheVariants as purpose
use Rattle.i2c_base.specs.declared.errno.Errno.{Errno}
use Rattle.i2c_base.specs.declared.reply.Cut.{Cut}
use Rattle.i2c_base.specs.declared.reply.Cut.TheVariants as cut_at
use Rattle.i2c_base.specs.declared.reply.Reply.{Reply}
use Rattle.i2c_base.specs.declared.reply.Reply.TheVariants as reply
use Rattle.i2c_base.specs.Fitting.{Fits}
use Rattle.i2c_base.specs.Board.{BoardView}
use Rattle.i2c_base.specs.Transfer.{IsTransfer, TransferView}
use Rattle.i2c_spec.specs.Tree.{buses, root_of}
use Rattle.bus_journal.specs.View.{JournalView}
use Rattle.bus_spec.specs.Grammar.{is_over, first_act, first_note, rest_of, seen, plain, walk_for}
use Rattle.bus_spec.specs.Readings.{message_cut}
use Rattle.bus_spec.specs.Stepwise.{reply_by}
use Rattle.bus_spec.specs.Walk.{ActOutcome, Passed, Settle, Then, Ends}
use Rattle.bus_spec.specs.Walk as walk
use Rattle.mux_plan.specs.declared.task.NextMsg.{NextMsg}
use Rattle.mux_plan.specs.Looks.{IsFresh}
use Rattle.mux_plan.specs.Plans.{is_call_through, action_of, looked_of}
use Rattle.mux_plan.specs.declared.task.Action.{Action}
use Rattle.core_laws.specs.Spots.{seen_of}
use Rattle.bus_message.specs.Ports.{RootPort}
use Rattle.core_laws.specs.Steps.{next_of, behind_of}
use Rattle.mux_plan.specs.declared.marks.MuxUpdate.{MuxUpdate}
use Rattle.mux_plan.specs.Marks.{updates_after}
use Rattle.mux_plan.specs.Plans.{slots_of}
use Rattle.seg_locks.specs.Locks.{LocksView}
use Rattle.bus_core.specs.Kept.{IsSeated}
use Rattle.bus_core.specs.Looks.{IsLookedAt}
use Rattle.bus_core.specs.Opening.{HasRoot}
use Rattle.bus_core.specs.Places.{HasCounted, walk_left, owed_by, got_by}
use Rattle.bus_message.specs.Sends.{MaySend, NextSent}
use Rattle.bus_message.specs.declared.message.MsgResult.{MsgResult}
use Rattle.bus_core.specs.declared.seat.Seat.{Seat}
use Rattle.i2c_base.specs.Need.{bytes_given}

-- it went on in its walk after a step with this outcome, and its caller's last entry tells this cut
pub record WentOn {C : Type 0} (v : LocksView) (out : ActOutcome) (cut : Cut) (s t : Seat C) : Type 0 where
  pub same : t ≡ record s { walk = t.walk; cut = cut }
  pub walk : walk_left t ≡ behind_of v (walk_left s) out
  pub route : t.walk.route ≡ s.walk.route

-- nothing was sent, read or decided yet
pub record IsUnused {C : Type 0} (s : Seat C) : Type 0 where
  pub msgs : s.transfer.msgs ≡ []
  pub sent : s.sent ≡ 0
  pub written : s.written ≡ 0
  pub got : s.replies.got ≡ []
  pub decided : s.decided ≡ None
  pub cut : s.cut ≡ cut_at.No

-- its next action, and the settle that comes next, if one does
abbrev pub TellsAction : {C : Type 0} → Action → Seat C → Type 0
TellsAction a s = a ≡ action_of (first_act (looked_of s.walk))

pub record TellsSettle {C : Type 0} (o : Option (Option Errno)) (s : Seat C) : Type 0 where
  pub some : IfSome o (λ verdict. first_act (looked_of s.walk) ≡ Some (Settle verdict))
  pub none : (verdict : Option Errno) → o ≡ None → first_act (looked_of s.walk) ≡ Some (Settle verdict) → ⊥

-- the marks that such a step changes, and the same by lock words that answer its looks
abbrev pub updates_ahead : {C : Type 0} → ActOutcome → Seat C → List MuxUpdate
updates_ahead out s = updates_after (first_act (looked_of s.walk)) (first_note (looked_of s.walk)) out

abbrev pub updates_of : {C : Type 0} → LocksView → ActOutcome → Seat C → List MuxUpdate
updates_of v out s = updates_after (next_of v (walk_left s)) (first_note (seen (slots_of (seen_of v)) (walk_left s))) out

-- it went on after a step with this outcome; the looks in front of its next one are open
pub record HasAdvanced {C : Type 0} (out : ActOutcome) (s t : Seat C) : Type 0 where
  pub same : t ≡ record s { walk = t.walk }
  pub route : t.walk.route ≡ s.walk.route
  pub fresh : IsFresh t.walk
  pub walk : walk_left t ≡ rest_of (looked_of s.walk) out

-- .. and these are answered
pub record HasLooked {C : Type 0} (v : LocksView) (s t : Seat C) : Type 0 where
  pub looked : IsLookedAt v t
  pub same : t ≡ record s { walk = t.walk }
  pub route : t.walk.route ≡ s.walk.route
  pub walk : walk_left t ≡ walk_left s

-- both, after a lock or a settle
pub record HasPassed {C : Type 0} (v : LocksView) (s t : Seat C) : Type 0 where
  pub went : WentOn v Passed cut_at.No s t
  pub looked : IsLookedAt v t

-- a reply was handed to its caller, which has room for it
pub record IsHanded {C S : Type 0} (c : CallerGhosts C S) (r : Reply) (s t : Seat C) : Type 0 where
  pub script : c.script t.caller ≡ c.script s.caller
  pub taken : c.taken t.caller ≡ c.taken s.caller ++ r ∷ []

-- the caller's next transfer is loaded, if it has one
pub record IsLoaded {C S : Type 0} (c : CallerGhosts C S) (b : BoardView) (t : Seat C) : Type 0 where
  pub some : (x : TransferView) → c.asked (c.script t.caller) (c.taken t.caller) ≡ Some x
      → (t.transfer ≡ x) × (walk_left t ≡ walk_for b x)
  pub none : c.asked (c.script t.caller) (c.taken t.caller) ≡ None → is_over (walk_left t) ≡ true
  pub sent : t.sent ≡ 0
  pub undecided : t.decided ≡ None
  pub unread : t.replies.got ≡ []

-- after the last step of a walk its reply was handed over, and the next transfer is loaded
pub record HasEnded {C S : Type 0} (c : CallerGhosts C S) (b : BoardView) (r : Reply) (cut : Cut) (s t : Seat C) : Type 0 where
  pub number : t.number ≡ s.number
  pub cut_is : t.cut ≡ cut
  pub handed : IsHanded c r s t
  pub loaded : IsLoaded c b t
  pub stays : c.asked (c.script t.caller) (c.taken t.caller) ≡ None → t.transfer ≡ s.transfer

-- its walk is over this board
abbrev pub IsOn : {C : Type 0} → BoardView → Seat C → Type 0
IsOn b s = s.walk.route.board ≡ b

-- the reply that it was settled with may be handed over, and the next transfer loaded: each root that is asked for has a
-- port
pub record MayEnd {C S : Type 0} (c : CallerGhosts C S) (b : BoardView) (roots : List ℕ) (s : Seat C) : Type 0 where
  pub seated : IsSeated c b roots s
  pub fits : (r : Reply) → owed_by s.decided s.replies ≡ r ∷ []
      → (c.asked (c.script s.caller) (c.taken s.caller) ≡ Some s.transfer) × Fits s.transfer r
  pub wired : (rs : List Reply) (t : TransferView) → c.asked (c.script s.caller) rs ≡ Some t → t.bus < buses b
      → HasRoot roots (root_of b t.bus)

-- after a lock that was freed: the walk goes on, or has ended
pub record HasFreed {C S : Type 0} (c : CallerGhosts C S) (b : BoardView) (v : LocksView) (roots : List ℕ) (s t : Seat C) : Type 0 where
  pub on : is_over (behind_of v (walk_left s) Passed) ≡ false → WentOn v Passed cut_at.No s t
  pub ended : is_over (behind_of v (walk_left s) Passed) ≡ true → (r : Reply) → owed_by s.decided s.replies ≡ r ∷ []
      → HasEnded c b r cut_at.No s t
  pub seated : IsSeated c b roots t

-- it may hear a message of its walk: one of the caller's is left where it went through, and what it read has room
pub record MayHear {C : Type 0} (next : NextMsg) (bytes : List ℕ) (r : MsgResult) (s : Seat C) : Type 0 where
  pub wrote : HasCounted s
  pub part : 0 < next.part
  pub more : is_call_through next.purpose r.end ≡ true → s.sent < length s.transfer.msgs
  pub room : next.purpose ≡ purpose.Call → r.reading ≡ true → length s.replies.got + length bytes ≤ MOST_BYTES

-- the reads of the caller's own messages are kept
abbrev pub got_heard : Purpose → Bool → List ℕ → List ℕ → List ℕ
got_heard purpose.Call reading bytes got = if reading then got ++ bytes else got
got_heard (purpose.Control m) reading bytes got = got

-- it heard a message, and went on after it: one of the caller's that went through is counted
pub record HasHeard {C : Type 0} (v : LocksView) (next : NextMsg) (bytes : List ℕ) (r : MsgResult) (s t : Seat C) : Type 0 where
  pub same : t ≡ record s {
    walk = t.walk;
    sent = t.sent;
    written = t.written;
    replies = t.replies;
    cut = message_cut next.purpose next.part r.end;
  }
  pub gone : t.sent ≡ (if is_call_through next.purpose r.end then s.sent + 1 else s.sent)
  pub got : t.replies ≡ record s.replies { got = got_heard next.purpose r.reading bytes s.replies.got }
  pub walk : walk_left t ≡ behind_of v (walk_left s) (walk.Sent r.end bytes)
  pub wrote : HasCounted t
  pub route : t.walk.route ≡ s.walk.route

-- the cut that a line step tells
abbrev pub cut_of_line : Bool → Cut
cut_of_line failed = if failed then cut_at.Way else cut_at.No

-- .. by whatever lock words answer its looks, and these marks it changes; and so after a line step
pub record HearsOut {C : Type 0} (next : NextMsg) (bytes : List ℕ) (r : MsgResult) (ds : List MuxUpdate) (s t : Seat C) : Type 0 where
  pub heard : (v : LocksView) → IsLookedAt v s → HasHeard v next bytes r s t
  pub updates : ds ≡ updates_ahead (walk.Sent r.end bytes) s
  pub fresh : IsFresh t.walk

pub record LinesOut {C : Type 0} (failed : Bool) (ds : List MuxUpdate) (s t : Seat C) : Type 0 where
  pub went : (v : LocksView) → IsLookedAt v s → WentOn v (walk.Lined failed) (cut_of_line failed) s t
  pub updates : ds ≡ updates_ahead (walk.Lined failed) s
  pub fresh : IsFresh t.walk

-- its reply was settled, and it went on after the settle
pub record HasSettled {C : Type 0} (v : LocksView) (verdict : Option Errno) (s t : Seat C) : Type 0 where
  pub same : t ≡ record s { walk = t.walk; replies = t.replies; decided = t.decided; cut = cut_at.No }
  pub owed : owed_by t.decided t.replies ≡ reply_by verdict (Some s.transfer) s.replies.got ∷ []
  pub emptied : got_by t.decided t.replies ≡ []
  pub walk : walk_left t ≡ behind_of v (walk_left s) Passed
  pub route : t.walk.route ≡ s.walk.route

-- the journal has room for the settle that comes next, if one does
pub record MaySettle {C : Type 0} (v : LocksView) (journal : JournalView) (s : Seat C) : Type 0 where
  pub room : (verdict : Option Errno) → next_of v (walk_left s) ≡ Some (Settle verdict)
      → (0 < journal.room) × (length (bytes_given (reply_by verdict (Some s.transfer) s.replies.got)) ≤ journal.room_bytes)

-- the settle that comes next was made, with its entry, or none comes next
pub record IsSettledIn {C : Type 0} (v : LocksView) (verdict : Option Errno) (old new : JournalView)
    (s t : Seat C) : Type 0 where
  pub next : next_of v (walk_left s) ≡ Some (Settle verdict)
  pub settled : HasSettled v verdict s t
  pub entries : new.entries ≡ old.entries ++ entry.Settle s.number (reply_by verdict (Some s.transfer) s.replies.got) s.cut ∷ []
  pub room : new.room + 1 ≡ old.room
  pub room_bytes : new.room_bytes + length (bytes_given (reply_by verdict (Some s.transfer) s.replies.got)) ≡ old.room_bytes

-- a refused transfer, whose lone settle comes next: its error may be handed over, and the next transfer loaded
pub record MayRefuse {C S : Type 0} (c : CallerGhosts C S) (b : BoardView) (roots : List ℕ) (errno : Errno) (journal : JournalView)
    (s : Seat C) : Type 0 where
  pub seated : IsSeated c b roots s
  pub lone : walk_left s ≡ Then (Settle (Some errno)) plain (λ o. Ends)
  pub asked : c.asked (c.script s.caller) (c.taken s.caller) ≡ Some s.transfer
  pub wired : (rs : List Reply) (t : TransferView) → c.asked (c.script s.caller) rs ≡ Some t → t.bus < buses b
      → HasRoot roots (root_of b t.bus)
  pub room : 0 < journal.room

-- it was settled, with its entry, its error handed over, and the next one loaded
pub record IsRefusedIn {C S : Type 0} (c : CallerGhosts C S) (b : BoardView) (roots : List ℕ) (errno : Errno) (old new : JournalView)
    (s t : Seat C) : Type 0 where
  pub ended : HasEnded c b (reply.Err errno) cut_at.No s t
  pub seated : IsSeated c b roots t
  pub entries : new.entries ≡ old.entries ++ entry.Settle s.number (reply.Err errno) s.cut ∷ []
  pub room : new.room + 1 ≡ old.room
  pub room_bytes : new.room_bytes ≡ old.room_bytes

-- a message of the caller's own that comes next is on a bus of the board, and one is left
pub record MayCall {C : Type 0} (b : BoardView) (next : NextMsg) (s : Seat C) : Type 0 where
  pub on_bus : next.purpose ≡ purpose.Call → s.transfer.bus < buses b
  pub more : next.purpose ≡ purpose.Call → s.sent < length s.transfer.msgs

-- the message that comes next may be sent over the port of its root: one of the caller's own is left
pub record MaySpeak {C : Type 0} (b : BoardView) (tells : Bool) (next : NextMsg) (sockets : List RootPort) (s : Seat C) : Type 0 where
  pub socket : RootPort
  pub here : slice_get sockets s.port ≡ Some socket
  pub may : MaySend b tells s.transfer s.sent next socket
  pub call : MayCall b next s
  pub wrote : HasCounted s

-- it was sent there, and no other port is another
pub record HasSpoken {C : Type 0} (b : BoardView) (tells : Bool) (next : NextMsg) (old new : List RootPort) (bytes : List ℕ) (r : MsgResult)
    (s : Seat C) : Type 0 where
  pub before : RootPort
  pub after : RootPort
  pub here : slice_get old s.port ≡ Some before
  pub set_is : new ≡ set old s.port after
  pub sent : NextSent b tells s.transfer s.sent next before after bytes r
  pub whole : next.purpose ≡ purpose.Call → IsTransfer s.transfer.msgs s.transfer.out
