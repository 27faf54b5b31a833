-- A core as contracts see it: what it was opened with, and where all stand.
use Rattle.std.specs.Prelude.{◌≡◌, ℕ, ◌==◌, Bool, true, false, IsTrue, ◌⊎◌, List, [], ◌∷◌, ◌++◌, map, reverse, Option, Some, None, slice_get, if◌then◌else◌}
use Rattle.i2c_base.specs.declared.caller.Caller.{Ghosts as CallerGhosts}
use Rattle.i2c_base.specs.declared.port.PortCall.{PortCall}
use Rattle.i2c_base.specs.declared.reply.Reply.{Reply}
use Rattle.i2c_base.specs.Limits.{MOST_CALLERS}
use Rattle.i2c_base.specs.Transfer.{TransferView}
use Rattle.ports.specs.declared.port.Port.{Ghosts as PortGhosts}
use Rattle.i2c_spec.specs.History.{Asks}
use Rattle.i2c_spec.specs.World.{World}
use Rattle.bus_journal.specs.View.{JournalView}
use Rattle.bus_spec.specs.Past.{Now, now}
use Rattle.bus_spec.specs.Stepwise.{IsStepwise}
use Rattle.bus_spec.specs.Walk.{Ends}
use Rattle.core_laws.specs.Spots.{LocksTold}
use Rattle.seg_locks.specs.Locks.{LocksView}
use Rattle.bus_core.specs.Opening.{Opening}
use Rattle.bus_core.specs.Places.{scripts_of, asks_of}
use Rattle.bus_core.specs.declared.parts.CoreInside.{CoreInside}
use Rattle.bus_core.specs.declared.seat.Seat.{Seat}

-- what it was opened with; each caller's number with the replies that it was handed; the journal and the lock words; and
-- of each port its root with its world, with its log, and with how it was set up
pub record CoreState (S : Type 0) : Type 0 where
  pub opening : Opening S
  pub taken : List (ℕ × List Reply)
  pub journal : JournalView
  pub locks : LocksView
  pub worlds : List (ℕ × World)
  pub logs : List (ℕ × List PortCall)
  pub setups : List (ℕ × List ℕ)

abbrev pub worlds_of : {P : Type 0} → (P → World) → List (ℕ × P) → List (ℕ × World)
worlds_of world ports = map (λ (p : ℕ × _). (p.0, world p.1)) ports

abbrev pub logs_of : {P : Type 0} → (P → List PortCall) → List (ℕ × P) → List (ℕ × List PortCall)
logs_of log ports = map (λ (p : ℕ × _). (p.0, log p.1)) ports

abbrev pub setups_of : {P : Type 0} → (P → List ℕ) → List (ℕ × P) → List (ℕ × List ℕ)
setups_of setup ports = map (λ (p : ℕ × _). (p.0, setup p.1)) ports

abbrev pub taken_of : {C S : Type 0} → CallerGhosts C S → List (Seat C) → List (ℕ × List Reply)
taken_of c seats = map (λ s. (s.number, c.taken s.caller)) seats

abbrev pub state_of : {P C S : Type 0} → PortGhosts P → CallerGhosts C S → CoreInside P C → CoreState S
state_of p c x =
    record {
      opening = record { board = x.board; scripts = scripts_of c x.seats.items; worlds = worlds_of p.world x.start.value.items };
      taken = taken_of c x.seats.items;
      journal = x.journal;
      locks = x.locks;
      worlds = worlds_of p.world x.ports.items;
      logs = logs_of p.log x.ports.items;
      setups = setups_of p.setup x.ports.items;
    }

-- the root of each port
abbrev pub roots_in : {S : Type 0} → CoreState S → List ℕ
roots_in v = map (λ (w : ℕ × World). w.0) v.worlds

-- the core has a caller of this number
abbrev pub has_caller : {S : Type 0} → List (ℕ × S) → ℕ → Bool
has_caller [] n = false
has_caller (s ∷ ss) n = if s.0 == n then true else has_caller ss n

-- what its callers ask for, and what its journal tells
abbrev pub asks_in_state : {S : Type 0} → (S → List Reply → Option TransferView) → CoreState S → Asks
asks_in_state asked v = asks_of asked v.opening.scripts

abbrev pub now_in : {S : Type 0} → (S → List Reply → Option TransferView) → CoreState S → Now
now_in asked v = now v.opening.board (asks_in_state asked v) (reverse v.journal.entries)

-- of the replies that are settled for it a caller was handed all, or all but the last one, which it takes at its next step
abbrev pub AreHanded : (taken settled : List Reply) → Type 0
AreHanded taken settled = (settled ≡ taken) ⊎ ((last : Reply) × (settled ≡ taken ++ last ∷ []))

-- over ports that tell: each entry might come where it did, and no settle is due; each caller was handed the replies that the journal
-- settles for it; the lock words tell what the journal does; each port's world is that of its root, and its log the calls of that
pub record CoreTold {S : Type 0} (asked : S → List Reply → Option TransferView) (v : CoreState S) : Type 0 where
  pub stepwise : IsStepwise v.opening.board MOST_CALLERS (asks_in_state asked v) (reverse v.journal.entries)
  pub rests : (now_in asked v).due ≡ None
  pub taken : (k n : ℕ) (rs : List Reply) → slice_get v.taken k ≡ Some (n, rs) → AreHanded rs ((now_in asked v).settled n)
  pub locks : LocksTold v.opening.board (now_in asked v) v.locks
  pub worlds : (k r : ℕ) (w : World) → slice_get v.worlds k ≡ Some (r, w) → w ≡ (now_in asked v).worlds r
  pub logs : (k r : ℕ) (log : List PortCall) → slice_get v.logs k ≡ Some (r, log) → log ≡ reverse ((now_in asked v).calls r)

-- a caller is through: its script is used up; and by the journal its walk has ended, and these are all its replies
pub record IsThrough {S : Type 0} (asked : S → List Reply → Option TransferView) (tells : Bool) (v : CoreState S) (n : ℕ)
    (taken : List Reply) : Type 0 where
  pub asks : asks_in_state asked v n taken ≡ None
  pub walk : IsTrue tells → (now_in asked v).walk n ≡ Ends
  pub settled : IsTrue tells → (now_in asked v).settled n ≡ taken

-- all are
abbrev pub AllThrough : {S : Type 0} → (S → List Reply → Option TransferView) → Bool → CoreState S → Type 0
AllThrough asked tells v = (i n : ℕ) (taken : List Reply) → slice_get v.taken i ≡ Some (n, taken) → IsThrough asked tells v n taken
