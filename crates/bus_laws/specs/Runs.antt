-- What a walk keeps, whatever its steps give: at each message its path is open and its locks are held, and at each
-- lock that is freed nothing stays open there unmarked. It knows nothing of callers, worlds and journals.
use Rattle.std.specs.Prelude.{◌≡◌, ℕ, zero, suc, ◌<◌, Bool, true, false, not, ◌&&◌, ◌⊎◌, List, [], ◌∷◌, length, Some, None}
use Rattle.std.specs.List.{AllByRecursion}
use Rattle.i2c_base.specs.declared.ids.LockId.{LockId}
use Rattle.i2c_base.specs.declared.ids.LockId.TheVariants as lock
use Rattle.i2c_base.specs.declared.board.MuxKind.{MuxKind}
use Rattle.i2c_base.specs.declared.entry.End.{End}
use Rattle.i2c_base.specs.declared.entry.End.TheVariants as end
use Rattle.i2c_base.specs.Board.{BoardView}
use Rattle.i2c_spec.specs.Tree.{Hop, hops, buses, root_of, home_of_mux, is_absent, is_held, of_mux, IsAmongHops}
use Rattle.i2c_base.specs.Transfer.{TransferView}
use Rattle.i2c_spec.specs.Messages.{MessageView, messages_of}
use Rattle.i2c_spec.specs.Tree.{is_left_open}
use Rattle.i2c_spec.specs.History.{changed_at}
use Rattle.i2c_spec.specs.Flat.{refusal}
use Rattle.bus_spec.specs.Walk.{Mark, Job, Call, Select, SwitchOff, Off, Deselect, Close, off_bus, off_mux, off_kind, Take, Free, Send, Shift, Settle, ActOutcome, Passed, Sent, Lined, ask_bus, WalkTree, Ends, Look, Then, job_bus, first_byte, is_arbitrator, is_line, is_gpio}
use Rattle.bus_spec.specs.Slots.{Slots, At, MuxSlot, Clean, Marked, Polled, Found, answer_to, after_job}
use Rattle.bus_spec.specs.Grammar.{kind_of}
use Rattle.bus_spec.specs.Stepwise.{IsBelow}

-- a lock is among these
abbrev pub InLocks : LockId → List LockId → Type 0
InLocks l [] = ⊥
InLocks l (k ∷ ks) = (l ≡ k) ⊎ InLocks l ks

-- a select of this mux is acknowledged, and goes through
abbrev pub answers : BoardView → ℕ → Bool
answers b m = not (is_absent b m) && not (is_held b m)

-- nothing is open on the bus, but what may be under a mark
abbrev pub IsShut : MuxSlot → Type 0
IsShut Clean = Unit {0}
IsShut (Marked m) = Unit {0}
IsShut (Polled h more) = ⊥
IsShut (Found h) = ⊥

-- the board has a mux of this number, of this kind
abbrev pub IsMuxOf : BoardView → ℕ → MuxKind → Type 0
IsMuxOf b m kind = of_mux (λ x. Some x.kind) None b m ≡ Some kind

-- it lets a job through: a line always does, a chip where it answers
abbrev pub LetsThrough : BoardView → ℕ → Type 0
LetsThrough b m = (is_gpio (kind_of b m) ≡ true) ⊎ (answers b m ≡ true)

-- a mux on this bus that stays as it is, and lets a job through
abbrev pub IsKept : BoardView → ℕ → ℕ → Type 0
IsKept b p m = (home_of_mux b m ≡ p) × (is_left_open b m ≡ true) × LetsThrough b m

-- each mux but this one with an open channel is such a one
abbrev pub OthersKept : BoardView → ℕ → ℕ → At → Type 0
OthersKept b p m s = (n c : ℕ) → (n ≡ m → ⊥) → s.kept n ≡ Some c → IsKept b p n

-- the channel of this hop is open; every other mux with an open channel is one that stays as it is
pub record IsOpenOn (b : BoardView) (g : Hop) (s : At) : Type 0 where
  pub clean : s.slot ≡ Clean
  pub kept : s.kept g.mux ≡ Some g.channel
  pub others : OthersKept b g.on g.mux s

-- what a taken lock may find on its bus
pub record IsRest (b : BoardView) (p : ℕ) (s : At) : Type 0 where
  pub shut : IsShut s.slot
  pub home : (m : ℕ) → s.slot ≡ Marked m → home_of_mux b m ≡ p
  pub known : (m : ℕ) → s.slot ≡ Marked m → IsMuxOf b m (kind_of b m)
  -- an open channel is of a mux on it that stays as it is
  pub stay : (m c : ℕ) → s.kept m ≡ Some c → IsKept b p m

-- the bus of a mux lock has this slot when it is taken
abbrev pub taken_slots : LockId → At → Slots → Slots
taken_slots (lock.Mux p) s v = changed_at v p s
taken_slots (lock.Bus r) s v = v

abbrev pub RestOf : BoardView → LockId → At → Type 0
RestOf b (lock.Mux p) s = IsRest b p s
RestOf b (lock.Bus r) s = Unit {0}

abbrev pub LeavesShut : BoardView → LockId → Slots → Type 0
LeavesShut b (lock.Mux p) v = IsRest b p (v p)
LeavesShut b (lock.Bus r) v = Unit {0}

-- what a step may give: a select goes through only where its mux answers, and isn't acknowledged only where its chip is
-- absent; an arbitrator is found taken at the last poll only where it is held
abbrev pub CanGoThrough : BoardView → Hop → ℕ → List ℕ → Type 0
CanGoThrough b h zero bytes = answers b h.mux ≡ true
CanGoThrough b h (suc zero) bytes = (first_byte bytes ≡ 0) ⊎ ((is_absent b h.mux ≡ false) × (is_held b h.mux ≡ true))
CanGoThrough b h (suc (suc left)) bytes = Unit {0}

abbrev pub CanSelect : BoardView → Hop → ℕ → End → List ℕ → Type 0
CanSelect b h left end.Ok bytes = CanGoThrough b h left bytes
CanSelect b h left end.Nack bytes = is_absent b h.mux ≡ true
CanSelect b h left end.Slow bytes = ⊥
CanSelect b h left end.Refused bytes = ⊥
CanSelect b h left end.Proto bytes = ⊥
CanSelect b h left (end.Cut q) bytes = Unit {0}

abbrev pub CanSend : BoardView → Job → ℕ → ActOutcome → Type 0
CanSend b (Select h) left (Sent e bytes) = CanSelect b h left e bytes
CanSend b (Call bus messages) left (Sent e bytes) = Unit {0}
CanSend b (SwitchOff off) left (Sent e bytes) = Unit {0}
CanSend b job left (Lined failed) = ⊥
CanSend b job left Passed = ⊥

-- a gpio mux answers always
abbrev pub CanShift : BoardView → Job → ActOutcome → Type 0
CanShift b job (Lined failed) = Unit {0}
CanShift b job (Sent e bytes) = ⊥
CanShift b job Passed = ⊥

-- what a job finds on its own bus: a select finds it clean, or its arbitrator asked so far; a deselect finds it clean; a
-- close finds its mux marked
abbrev pub FindsPoll : Hop → ℕ → MuxSlot → Type 0
FindsPoll h zero s = s ≡ Found h
FindsPoll h (suc left) s = (s ≡ Polled h left) ⊎ ((left ≡ 7) × (s ≡ Clean))

abbrev pub FindsSelect : Bool → Hop → ℕ → At → Type 0
FindsSelect true h left x = FindsPoll h left x.slot × (x.kept h.mux ≡ None)
FindsSelect false h left x = (left ≡ 0) × (x.slot ≡ Clean)

abbrev pub FindsOpen : Off → MuxSlot → Type 0
FindsOpen (Deselect h) s = s ≡ Clean
FindsOpen (Close on mux kind) s = s ≡ Marked mux

abbrev pub FindsOff : BoardView → Off → Slots → Type 0
FindsOff b off v =
    FindsOpen off (v (off_bus off)).slot × (home_of_mux b (off_mux off) ≡ off_bus off)
    × IsMuxOf b (off_mux off) (off_kind off)

abbrev pub Finds : BoardView → Job → ℕ → Slots → Type 0
Finds b (Call bus messages) left v = Unit {0}
Finds b (Select h) left v = FindsSelect (is_arbitrator h.kind) h left (v h.on) × IsAmongHops h (hops b h.bus) × (h.bus < buses b)
Finds b (SwitchOff off) left v = FindsOff b off v

-- the lock of the job's own bus is held, and its own mark is the first, and the only one on that bus
abbrev pub IsUnmarked : ℕ → List Mark → Type 0
IsUnmarked p ms = AllByRecursion (λ m. p ≡ m.on → ⊥) ms

abbrev pub HeadsMarks : ℕ → ℕ → List Mark → Type 0
HeadsMarks on mux [] = ⊥
HeadsMarks on mux (m ∷ ms) = (m.on ≡ on) × (m.mux ≡ mux) × IsUnmarked on ms

abbrev pub Owns : Job → List Mark → List LockId → Type 0
Owns (Call bus messages) marks held = Unit {0}
Owns (Select h) marks held = InLocks (lock.Mux h.on) held × HeadsMarks h.on h.mux marks
Owns (SwitchOff off) marks held = InLocks (lock.Mux (off_bus off)) held × HeadsMarks (off_bus off) (off_mux off) marks

-- a mark on a bus forgets nothing that may be open there
abbrev pub IsOfMux : ℕ → MuxSlot → Type 0
IsOfMux m Clean = Unit {0}
IsOfMux m (Marked k) = k ≡ m
IsOfMux m (Polled h more) = h.mux ≡ m
IsOfMux m (Found h) = h.mux ≡ m

pub record MayMark (b : BoardView) (held : List LockId) (v : Slots) (m : Mark) : Type 0 where
  pub locked : InLocks (lock.Mux m.on) held
  pub at_home : home_of_mux b m.mux ≡ m.on
  pub forgets : IsOfMux m.mux (v m.on).slot

abbrev pub MayFail : BoardView → List Mark → List LockId → Slots → Type 0
MayFail b marks held v = AllByRecursion (MayMark b held v) marks

-- the caller's messages are those of its transfer, which isn't refused
pub record IsCall (b : BoardView) (whose : TransferView) (bus : ℕ) (messages : List MessageView) : Type 0 where
  pub same_bus : bus ≡ whose.bus
  pub same_messages : messages ≡ messages_of whose
  pub not_refused : refusal b whose ≡ None
  pub some_message : 0 < length whose.msgs

abbrev pub IsGranted : BoardView → TransferView → Job → Type 0
IsGranted b whose (Call bus messages) = IsCall b whose bus messages
IsGranted b whose (Select h) = Unit {0}
IsGranted b whose (SwitchOff off) = Unit {0}

-- a message may be sent
pub record MaySend (b : BoardView) (whose : TransferView) (job : Job) (left : ℕ) (marks : List Mark) (held : List LockId)
    (v : Slots) : Type 0 where
  -- every mux over its bus is selected, and its lock is held; so is the root's
  pub reached : (g : Hop) → IsAmongHops g (hops b (job_bus job)) → IsOpenOn b g (v g.on) × InLocks (lock.Mux g.on) held
  pub rooted : InLocks (lock.Bus (root_of b (job_bus job))) held
  pub finds : Finds b job left v
  pub owns : Owns job marks held
  pub may_fail : MayFail b marks held v
  pub granted : IsGranted b whose job
  pub by_message : is_line job ≡ false

-- a line step needs no way, but the root's lock as well
pub record MayShift (b : BoardView) (job : Job) (marks : List Mark) (held : List LockId) (v : Slots) : Type 0 where
  pub by_line : is_line job ≡ true
  pub rooted : InLocks (lock.Bus (root_of b (job_bus job))) held
  pub finds : Finds b job zero v
  pub owns : Owns job marks held
  pub may_fail : MayFail b marks held v

-- the walk of a transfer runs from these locks and this knowledge, whatever its steps give
abbrev pub Runs : BoardView → TransferView → List LockId → Slots → WalkTree → Type 0
Runs b whose held v Ends = held ≡ []
Runs b whose held v (Look ask next) = InLocks (lock.Mux (ask_bus ask)) held × Runs b whose held v (next (answer_to v ask))
Runs b whose held v (Then (Take l) note next) =
    IsBelow b l held × ((s : At) → RestOf b l s → Runs b whose (l ∷ held) (taken_slots l s v) (next Passed))
Runs b whose held v (Then (Free l) note next) =
    (rest : List LockId) × (held ≡ l ∷ rest) × LeavesShut b l v × Runs b whose rest v (next Passed)
Runs b whose held v (Then (Send job left) note next) =
    MaySend b whose job left note.marks held v
    × ((out : ActOutcome) → CanSend b job left out → Runs b whose held (after_job job left note.marks out v) (next out))
Runs b whose held v (Then (Shift job) note next) =
    MayShift b job note.marks held v
    × ((out : ActOutcome) → CanShift b job out → Runs b whose held (after_job job zero note.marks out v) (next out))
Runs b whose held v (Then (Settle verdict) note next) = Runs b whose held v (next Passed)
