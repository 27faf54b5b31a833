-- What the core keeps between two steps, and what a step leaves.
use Rattle.std.specs.Prelude.{◌≡◌, ◌⊎◌, ℕ, ◌+◌, ◌<◌, ◌≤◌, false, IsTrue, List, ◌++◌, length, map, reverse, Option, Some, slice_get}
use Rattle.i2c_base.specs.declared.caller.Caller.{Ghosts as CallerGhosts}
use Rattle.i2c_base.specs.declared.entry.Entry.{Entry}
use Rattle.i2c_base.specs.declared.ids.LockId.{LockId}
use Rattle.i2c_base.specs.declared.reply.Reply.{Reply}
use Rattle.i2c_base.specs.Board.{BoardView}
use Rattle.i2c_base.specs.Limits.{MOST_CALLERS}
use Rattle.i2c_base.specs.Need.{Covers}
use Rattle.i2c_spec.specs.History.{Asks}
use Rattle.i2c_spec.specs.Tree.{buses, root_of}
use Rattle.bus_spec.specs.Grammar.{is_over}
use Rattle.bus_spec.specs.Schedule.{Turn}
use Rattle.bus_spec.specs.Walk.{Job, Act, Send, Shift, line_mux, line_level}
use Rattle.bus_laws.specs.Coming.{IsTurn}
use Rattle.bus_message.specs.Ports.{root_ports}
use Rattle.core_laws.specs.Core.{Run, Whole, CoreKept, IsLone}
use Rattle.mux_plan.specs.declared.task.NextMsg.{NextMsg}
use Rattle.core_laws.specs.Sends.{IsMessageOf}
use Rattle.core_laws.specs.Steps.{next_of}
use Rattle.ports.specs.declared.port.Port.{Ghosts as PortGhosts}
use Rattle.bus_core.specs.Looks.{AreLooked}
use Rattle.bus_core.specs.Opening.{IsSetUp}
use Rattle.bus_core.specs.Places.{HasCounted, walk_left, places_of, scripts_of, asks_of, left_of}
use Rattle.bus_core.specs.State.{setups_of}
use Rattle.bus_core.specs.declared.parts.CoreInside.{CoreInside}
use Rattle.bus_core.specs.declared.seat.Seat.{Seat}

abbrev pub roots_of : {P : Type 0} → List (ℕ × P) → List ℕ
roots_of ports = map (λ (p : ℕ × _). p.0) ports

-- a seat: its walk is over the board, and its counts are those of its transfer; the port of its root is known while it is on a
-- bus; a transfer on a bus that isn't there is refused; and its caller has room for the replies to come
pub record IsSeated {C S : Type 0} (c : CallerGhosts C S) (b : BoardView) (roots : List ℕ) (s : Seat C) : Type 0 where
  pub on : s.walk.route.board ≡ b
  pub wrote : HasCounted s
  pub within : s.sent ≤ length s.transfer.msgs
  pub plugged : is_over (walk_left s) ≡ false → s.transfer.bus < buses b → slice_get roots s.port ≡ Some (root_of b s.transfer.bus)
  pub there : is_over (walk_left s) ≡ false → (s.transfer.bus < buses b) ⊎ IsLone b (walk_left s)
  pub spare : Covers (c.spare s.caller) (c.owed (c.script s.caller) (c.taken s.caller))

-- what all callers ask for, and have left, by what they were opened with
abbrev pub asks_in : {P C S : Type 0} → CallerGhosts C S → CoreInside P C → Asks
asks_in c x = asks_of c.asked (scripts_of c x.seats.items)

abbrev pub left_in : {P C S : Type 0} → CallerGhosts C S → CoreInside P C → ℕ → List Reply → ℕ
left_in c x = left_of c.left (scripts_of c x.seats.items)

-- what stays as it is, and where all stand between two steps
abbrev pub run_of : {P C S : Type 0} → PortGhosts P → CallerGhosts C S → CoreInside P C → Run
run_of p c x = record { board = x.board; tells = p.tells; asks = asks_in c x; left = left_in c x; callers = MOST_CALLERS }

abbrev pub whole_of : {P C S : Type 0} → PortGhosts P → CallerGhosts C S → CoreInside P C → List (List LockId) → List ℕ → Whole
whole_of p c x held owes =
    record {
      past = reverse x.journal.entries;
      room = x.journal.room;
      room_bytes = x.journal.room_bytes;
      places = places_of c x.seats.items;
      held = held;
      owes = owes;
      locks = x.locks;
      sockets = root_ports p x.ports.items;
    }

-- the whole: what never changes, what is kept of the plain lists, and what each seat keeps
pub record IsKept {P C S : Type 0} (p : PortGhosts P) (c : CallerGhosts C S) (x : CoreInside P C) : Type 0 where
  pub owes : List ℕ
  pub held : List (List LockId)
  pub set_up : IsSetUp c.asked c.left c.board x.board (scripts_of c x.seats.items) (roots_of x.ports.items)
  pub kept : CoreKept (run_of p c x) (whole_of p c x held owes)
  pub seated : (i : ℕ) (s : Seat C) → slice_get x.seats.items i ≡ Some s → IsSeated c x.board (roots_of x.ports.items) s

-- .. with the looks in front of each caller's next step answered
pub record IsResting {P C S : Type 0} (p : PortGhosts P) (c : CallerGhosts C S) (x : CoreInside P C) : Type 0 where
  pub kept : IsKept p c x
  pub looked : AreLooked x.locks x.seats.items

-- this comes next of the caller at a place
pub record ComesAt {P C : Type 0} (x : CoreInside P C) (place : ℕ) (act : Act) : Type 0 where
  pub seat : Seat C
  pub here : slice_get x.seats.items place ≡ Some seat
  pub next : next_of x.locks (walk_left seat) ≡ Some act

-- this message comes next of it
pub record HasMessage {P C : Type 0} (x : CoreInside P C) (place : ℕ) (next : NextMsg) : Type 0 where
  pub job : Job
  pub left : ℕ
  pub comes : ComesAt x place (Send job left)
  pub of : IsMessageOf job left next

-- this line step comes next of it
pub record HasShift {P C : Type 0} (x : CoreInside P C) (place mux level : ℕ) : Type 0 where
  pub job : Job
  pub comes : ComesAt x place (Shift job)
  pub of_mux : line_mux job ≡ mux
  pub to_level : line_level job ≡ level

-- what a journal has more is one step of this caller's by the schedule, which may come there
pub record HasTurn (b : BoardView) (asks : Asks) (number : ℕ) (old new : List Entry) : Type 0 where
  pub turn : Turn
  pub own : turn.caller ≡ number
  pub comes : IsTurn b MOST_CALLERS asks (reverse old) turn
  pub entries : new ≡ old ++ turn.entries

-- a step of the caller at a place was made: what was opened is as before, the journal has less room, and where the ports
-- tell, what it has more is one step of the schedule
pub record HasStepped {P C S : Type 0} (p : PortGhosts P) (c : CallerGhosts C S) (place : ℕ) (old new : CoreInside P C) : Type 0 where
  pub board : new.board ≡ old.board
  pub start : new.start ≡ old.start
  pub scripts : scripts_of c new.seats.items ≡ scripts_of c old.seats.items
  pub setups : setups_of p.setup new.ports.items ≡ setups_of p.setup old.ports.items
  pub places : new.places ≡ old.places
  pub room : new.journal.room < old.journal.room
  pub counted : length new.journal.entries + new.journal.room ≡ length old.journal.entries + old.journal.room
  pub turn : IsTrue p.tells → (s : Seat C) → slice_get old.seats.items place ≡ Some s
      → HasTurn old.board (asks_in c old) s.number old.journal.entries new.journal.entries

-- .. and all is kept after it
pub record HasMadeStep {P C S : Type 0} (p : PortGhosts P) (c : CallerGhosts C S) (place : ℕ) (old new : CoreInside P C) : Type 0 where
  pub rests : IsResting p c new
  pub stepped : HasStepped p c place old new

-- the place of each caller among the seats, by its number; none for a number that no caller has
pub record ArePlaced {S : Type 0} (places : List (Option ℕ)) (scripts : List (ℕ × S)) : Type 0 where
  pub all : length places ≡ MOST_CALLERS
  pub there : (n place : ℕ) → slice_get places n ≡ Some (Some place) → (s : S) × (slice_get scripts place ≡ Some (n, s))
  pub named : (place n : ℕ) (s : S) → slice_get scripts place ≡ Some (n, s) → slice_get places n ≡ Some (Some place)

-- the core between two steps
pub record IsCore {P C S : Type 0} (p : PortGhosts P) (c : CallerGhosts C S) (x : CoreInside P C) : Type 0 where
  pub kept : IsKept p c x
  pub looked : AreLooked x.locks x.seats.items
  pub placed : ArePlaced x.places.items (scripts_of c x.seats.items)

-- one core came from another: what was opened is as before, and the journal has as many entries more as it has less room
pub record HasCome {P C S : Type 0} (p : PortGhosts P) (c : CallerGhosts C S) (old new : CoreInside P C) : Type 0 where
  pub board : new.board ≡ old.board
  pub start : new.start ≡ old.start
  pub scripts : scripts_of c new.seats.items ≡ scripts_of c old.seats.items
  pub setups : setups_of p.setup new.ports.items ≡ setups_of p.setup old.ports.items
  pub places : new.places ≡ old.places
  pub counted : length new.journal.entries + new.journal.room ≡ length old.journal.entries + old.journal.room
