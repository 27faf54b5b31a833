-- What a core may be opened with, and what it is then.
use Rattle.std.specs.Prelude.{◌≡◌, ℕ, ◌+◌, ◌*◌, ◌<◌, ◌≤◌, IsTrue, List, [], length, map, Option, Some, None, slice_get}
use Rattle.std.specs.List.{sum_by}
use Rattle.i2c_base.specs.declared.caller.Caller.{Ghosts as CallerGhosts}
use Rattle.i2c_base.specs.declared.port.PortCall.{PortCall}
use Rattle.i2c_base.specs.declared.port.Phase.TheVariants.{Idle}
use Rattle.i2c_base.specs.declared.reply.Cut.TheVariants as cut_at
use Rattle.i2c_base.specs.Board.{BoardView}
use Rattle.i2c_base.specs.Limits.{MOST_CALLERS, MOST_CALLS}
use Rattle.ports.specs.declared.port.Port.{Ghosts as PortGhosts}
use Rattle.i2c_spec.specs.Fair.{IsFairCaller}
use Rattle.i2c_spec.specs.World.{opening_world}
use Rattle.core_laws.specs.Opens.{AreFree}
use Rattle.core_laws.specs.Table.{AreDistinct}
use Rattle.seg_locks.specs.Locks.{LocksView}
use Rattle.bus_core.specs.Looks.{IsLookedAt}
use Rattle.bus_core.specs.Kept.{IsSeated, roots_of}
use Rattle.bus_core.specs.Opening.{Opening, HasRoot}
use Rattle.bus_core.specs.Places.{scripts_of}
use Rattle.bus_core.specs.Seats.{IsLoaded}
use Rattle.bus_core.specs.State.{taken_of}
use Rattle.bus_core.specs.declared.parts.CoreInside.{CoreInside}
use Rattle.bus_core.specs.declared.seat.Seat.{Seat}
use Rattle.i2c_base.specs.declared.reply.Reply.{Reply}
use Rattle.i2c_base.specs.Transfer.{TransferView}
use Rattle.i2c_spec.specs.Tree.{buses, root_of}

abbrev pub callers_scripts : {C S : Type 0} → CallerGhosts C S → List (ℕ × C) → List (ℕ × S)
callers_scripts c callers = map (λ (x : ℕ × _). (x.0, c.script x.1)) callers

-- what a core that is opened with these has of them for good
abbrev pub opening_of : {P C S : Type 0} → PortGhosts P → CallerGhosts C S → BoardView → List (ℕ × P) → List (ℕ × C) → Opening S
opening_of p c b ports callers = record {
  board = b;
  scripts = callers_scripts c callers;
  worlds = map (λ (q : ℕ × _). (q.0, p.world q.1)) ports;
}

abbrev pub numbers_in : {C : Type 0} → List (ℕ × C) → List ℕ
numbers_in callers = map (λ (x : ℕ × _). x.0) callers

-- numbers and roots are distinct; each port is idle, and where it tells it has the opening world of its root and an empty
-- log; the callers are fair, have taken no reply, and were opened with the board; each root that a transfer of theirs names
-- has a port; and the limit covers what they have left, and is no more than a log has room for
pub record MayOpen {P C S : Type 0} (p : PortGhosts P) (c : CallerGhosts C S) (b : BoardView) (ports : List (ℕ × P))
    (callers : List (ℕ × C)) (limit : ℕ) : Type 0 where
  pub distinct : AreDistinct (numbers_in callers)
  pub below : (i : ℕ) (x : ℕ × C) → slice_get callers i ≡ Some x → x.0 < MOST_CALLERS
  pub once : AreDistinct (roots_of ports)
  pub idle : (k : ℕ) (x : ℕ × P) → slice_get ports k ≡ Some x → p.phase x.1 ≡ Idle
  pub worlds : IsTrue p.tells → (k : ℕ) (x : ℕ × P) → slice_get ports k ≡ Some x → (p.world x.1 ≡ opening_world b x.0) × (p.log x.1 ≡ [])
  pub fair : IsFairCaller c.asked c.left c.board
  pub untaken : (i : ℕ) (x : ℕ × C) → slice_get callers i ≡ Some x → c.taken x.1 ≡ []
  pub home : (i : ℕ) (x : ℕ × C) → slice_get callers i ≡ Some x → c.board (c.script x.1) ≡ b
  pub wired : (i : ℕ) (x : ℕ × C) (rs : List Reply) (t : TransferView) → slice_get callers i ≡ Some x → c.asked (c.script x.1) rs ≡ Some t
      → t.bus < buses b → HasRoot (roots_of ports) (root_of b t.bus)
  pub covers : sum_by (λ (x : ℕ × C). c.left (c.script x.1) []) callers ≤ limit
  pub most : 2 * limit ≤ MOST_CALLS

-- each caller's number, with no reply taken
abbrev pub untaken : {C : Type 0} → List (ℕ × C) → List (ℕ × List Reply)
untaken callers = map (λ (x : ℕ × _). (x.0, [])) callers

-- each port's root, with an empty log
abbrev pub uncalled : {P : Type 0} → List (ℕ × P) → List (ℕ × List PortCall)
uncalled ports = map (λ (x : ℕ × _). (x.0, [])) ports

-- a caller's seat, with its first transfer loaded
pub record IsFreshSeat {C S : Type 0} (c : CallerGhosts C S) (b : BoardView) (roots : List ℕ) (number : ℕ) (caller : C)
    (s : Seat C) : Type 0 where
  pub number_is : s.number ≡ number
  pub script : c.script s.caller ≡ c.script caller
  pub taken : c.taken s.caller ≡ c.taken caller
  pub loaded : IsLoaded c b s
  pub looked : (v : LocksView) → IsLookedAt v s
  pub cut : s.cut ≡ cut_at.No
  pub seated : ((t : TransferView) → c.asked (c.script caller) (c.taken caller) ≡ Some t → t.bus < buses b
      → HasRoot roots (root_of b t.bus)) → IsSeated c b roots s

-- one where a number has no place yet
abbrev pub without_place : Option ℕ → ℕ
without_place None = 1
without_place (Some place) = 0

-- a seat is that of the caller at its place
pub record IsSeatOf {C S : Type 0} (c : CallerGhosts C S) (b : BoardView) (roots : List ℕ) (callers : List (ℕ × C)) (place : ℕ)
    (s : Seat C) : Type 0 where
  pub of : ℕ × C
  pub here : slice_get callers place ≡ Some of
  pub fresh : IsFreshSeat c b roots of.0 of.1 s

-- the number of a seat
pub record HasNumber {C : Type 0} (seats : List (Seat C)) (place number : ℕ) : Type 0 where
  pub seat : Seat C
  pub here : slice_get seats place ≡ Some seat
  pub number_is : seat.number ≡ number

-- so many callers have their seats, in their order, and the place of each seat's number is noted, and of no other
pub record AreSeated {C S : Type 0} (c : CallerGhosts C S) (b : BoardView) (roots : List ℕ) (callers : List (ℕ × C)) (count : ℕ)
    (seats : List (Seat C)) (places : List (Option ℕ)) : Type 0 where
  pub counted : length seats ≡ count
  pub fresh : (i : ℕ) (s : Seat C) → slice_get seats i ≡ Some s → IsSeatOf c b roots callers i s
  pub all : length places ≡ MOST_CALLERS
  pub named : (i : ℕ) (s : Seat C) → slice_get seats i ≡ Some s → slice_get places s.number ≡ Some (Some i)
  pub there : (n place : ℕ) → slice_get places n ≡ Some (Some place) → HasNumber seats place n
  pub left : sum_by without_place places + count ≡ MOST_CALLERS

-- it was opened with these, and nothing was done yet
pub record IsOpenedWith {P C S : Type 0} (p : PortGhosts P) (c : CallerGhosts C S) (b : BoardView) (ports : List (ℕ × P))
    (callers : List (ℕ × C)) (limit : ℕ) (x : CoreInside P C) : Type 0 where
  pub board : x.board ≡ b
  pub ports_are : x.ports.items ≡ ports
  pub start : x.start.value.items ≡ ports
  pub scripts : scripts_of c x.seats.items ≡ callers_scripts c callers
  pub taken : taken_of c x.seats.items ≡ untaken callers
  pub locks : AreFree x.locks
  pub entries : x.journal.entries ≡ []
  pub room : x.journal.room ≡ limit
