-- What makes a journal legal: the rules of the bus over the whole of it, in the field's words. The journal is read as
-- a past, the newest entry first.
use Rattle.std.specs.Prelude.{◌≡◌, ℕ, zero, ◌<◌, Bool, true, false, ◌⊎◌, List, [], ◌∷◌, ◌++◌, Option, Some, None, slice_get}
use Rattle.std.specs.List.{list_any, list_all, AllByRecursion}
use Rattle.std.specs.Option.{option_map_or}
use Rattle.i2c_base.specs.declared.ids.LockId.{LockId}
use Rattle.i2c_base.specs.declared.ids.Node.{Node}
use Rattle.i2c_base.specs.declared.ids.Node.TheVariants as node
use Rattle.i2c_base.specs.declared.event.Event.TheVariants as event
use Rattle.i2c_base.specs.declared.entry.Entry.{Entry}
use Rattle.i2c_base.specs.declared.entry.Entry.TheVariants as entry
use Rattle.i2c_base.specs.declared.entry.End.{End}
use Rattle.i2c_base.specs.declared.entry.End.TheVariants as end
use Rattle.i2c_base.specs.declared.entry.Purpose.{Purpose}
use Rattle.i2c_base.specs.declared.entry.Purpose.TheVariants as purpose
use Rattle.i2c_base.specs.declared.tree.Grant.TheVariants as grant
use Rattle.i2c_base.specs.Board.{BoardView}
use Rattle.i2c_base.specs.Transfer.{TransferView}
use Rattle.i2c_spec.specs.Tree.{hops, root_of, home_of_mux, addr_of_mux, is_absent}
use Rattle.i2c_spec.specs.Grant.{grant_of}
use Rattle.i2c_spec.specs.Targets.{TargetState, state_table}
use Rattle.i2c_spec.specs.World.{World, opens_hop, has_heard}
use Rattle.i2c_spec.specs.Flat.{refusal}
use Rattle.i2c_spec.specs.History.{Asks, History, history}
use Rattle.bus_spec.specs.Walk.{Ends}
use Rattle.bus_spec.specs.Readings.{MessageEntry, of_message, OfMessage, rank, caller_of, holder, replies, order, is_on_root, is_call_of, is_settle_of, last_cut, Everywhere}
use Rattle.bus_spec.specs.Past.{now, world_at}
use Rattle.bus_spec.specs.Places.{transfer_at}
use Rattle.bus_spec.specs.Tells.{HearsIn}
use Rattle.bus_spec.specs.ByTree.{KeepsWalks}

-- LOCKS: a lock is taken only while nobody has it, in falling rank, and freed only by who has it (i2c-topology)
abbrev pub LocksAt : BoardView → Entry → List Entry → Type 0
LocksAt b (entry.Take c l) past =
    (holder past l ≡ None) × ((k : LockId) → holder past k ≡ Some c → rank b l < rank b k)
LocksAt b (entry.Free c l) past = holder past l ≡ Some c
LocksAt b e past = Unit {0}

abbrev pub KeepsLocks : BoardView → List Entry → Type 0
KeepsLocks b past = Everywhere (LocksAt b) past

-- WHOLE: between two messages of one transfer of a caller no other message or line step of that root stands
-- (UM10204 section 3.1.10: messages joined by repeated starts are one transfer)
pub record KeepsWhole (b : BoardView) (past : List Entry) : Type 0 where
  pub between : (c r : ℕ) (later middle earlier : List Entry) (x y : Entry)
      → past ≡ later ++ y ∷ (middle ++ x ∷ earlier)
      → is_call_of b r c x ≡ true → is_call_of b r c y ≡ true → list_any (is_settle_of c) middle ≡ false
      → AllByRecursion (λ e. is_on_root b r e ≡ true → is_call_of b r c e ≡ true) middle

-- REACH: each message reached the target that its bus and address name, or nobody, on an open path
abbrev pub starts : Option TargetState → Bool → Bool
starts None reading = false
starts (Some x) reading = has_heard (state_table.answer x (event.Start reading))

-- the start itself failed by the port
abbrev pub start_failed : End → Bool
start_failed (end.Cut zero) = true
start_failed e = false

-- a caller's message is heard by device d exactly where its bus and address grant d, and d acknowledges the start
pub record IsHeardBy (b : BoardView) (w : World) (force : Bool) (m : MessageEntry) : Type 0 where
  pub not_busy : grant_of b m.bus m.addr force ≡ grant.Busy → ⊥
  pub only : (x : Node) → m.heard ≡ Some x
      → (d : ℕ) × (x ≡ node.Device d) × (grant_of b m.bus m.addr force ≡ grant.Named d) × (starts (slice_get w.devices d) m.reading ≡ true)
  pub always : (d : ℕ) → grant_of b m.bus m.addr force ≡ grant.Named d → starts (slice_get w.devices d) m.reading ≡ true
      → start_failed m.end ≡ false → m.heard ≡ Some (node.Device d)

-- a control message of mux k goes to its chip, on its bus, and is heard by nobody exactly where the mux is absent or the
-- start failed
pub record IsHeardByChip (b : BoardView) (k : ℕ) (m : MessageEntry) : Type 0 where
  pub at_home : m.bus ≡ home_of_mux b k
  pub at_address : addr_of_mux b k ≡ Some m.addr
  pub only : (x : Node) → m.heard ≡ Some x → x ≡ node.Chip k
  pub absent : is_absent b k ≡ true → m.heard ≡ None
  pub present : m.heard ≡ None → (is_absent b k ≡ true) ⊎ (start_failed m.end ≡ true)

abbrev pub by_purpose : BoardView → World → Bool → MessageEntry → Purpose → Type 0
by_purpose b w force m purpose.Call = IsHeardBy b w force m
by_purpose b w force m (purpose.Control k) = IsHeardByChip b k m

-- the transfer in flight is forced
abbrev pub is_forced : Option TransferView → Bool
is_forced t = option_map_or (λ x. x.force) t false

-- every mux over its bus has the path's channel open, and who has heard it is who hears its start there
abbrev pub IsReached : BoardView → World → Bool → MessageEntry → Type 0
IsReached b w force m =
    (list_all (opens_hop w.chips) (hops b m.bus) ≡ true) × HearsIn w m.addr m.reading m.heard m.end × by_purpose b w force m m.purpose

abbrev pub ReachAt : BoardView → Asks → Entry → List Entry → Type 0
ReachAt b asks e past = OfMessage
    (λ m. IsReached b (world_at b asks past (root_of b m.bus)) (is_forced (transfer_at asks past m.caller)) m) e

abbrev pub Reaches : BoardView → Asks → List Entry → Type 0
Reaches b asks past = Everywhere (ReachAt b asks) past

-- REPLIES: they are those of the flat world doing the transfers one at a time, in the order of the settles
pub record KeepsReplies (b : BoardView) (asks : Asks) (past : List Entry) : Type 0 where
  pub told : History
  pub defined : history b asks (order past) ≡ Some told
  pub same : (c : ℕ) → replies past c ≡ told.replies c

-- SETTLES: each cut is the one that its caller's last entry tells, and where the transfer is one that steps on the
-- bus the settle stands directly behind that entry
abbrev pub is_stepping : Entry → Bool
is_stepping (entry.Line c mux level failed) = true
is_stepping e = of_message false (λ m. true) e

abbrev pub IsDirectlyBehind : ℕ → List Entry → Type 0
IsDirectlyBehind c [] = ⊥
IsDirectlyBehind c (e ∷ past) = (caller_of e ≡ c) × (is_stepping e ≡ true)

abbrev pub IsPlaced : BoardView → Option TransferView → ℕ → List Entry → Type 0
IsPlaced b None c past = ⊥
IsPlaced b (Some t) c past = refusal b t ≡ None → IsDirectlyBehind c past

abbrev pub SettleAt : BoardView → Asks → Entry → List Entry → Type 0
SettleAt b asks (entry.Settle c r cut) past = (cut ≡ last_cut past c) × IsPlaced b (transfer_at asks past c) c past
SettleAt b asks e past = Unit {0}

abbrev pub KeepsSettles : BoardView → Asks → List Entry → Type 0
KeepsSettles b asks past = Everywhere (SettleAt b asks) past

-- a journal is legal for a board, so many callers, and what they ask for. Its walks and its worlds are told by the walk tree; a law
-- says that `IsRuled` tells the same without it
pub record IsLegal (b : BoardView) (callers : ℕ) (asks : Asks) (past : List Entry) : Type 0 where
  pub known : Everywhere (λ e before. caller_of e < callers) past
  pub locks : KeepsLocks b past
  pub whole : KeepsWhole b past
  pub walks : KeepsWalks b asks past
  pub reach : Reaches b asks past
  pub replies_kept : KeepsReplies b asks past
  pub settles : KeepsSettles b asks past

-- and complete: nobody asks for more, no walk is under way, no lock is held
pub record IsComplete (b : BoardView) (callers : ℕ) (asks : Asks) (past : List Entry) : Type 0 where
  pub asked : (c : ℕ) → c < callers → transfer_at asks past c ≡ None
  pub walked : (c : ℕ) → (now b asks past).walk c ≡ Ends
  pub free : (l : LockId) → holder past l ≡ None
