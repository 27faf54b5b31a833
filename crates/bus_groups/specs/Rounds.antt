-- What each group's core is opened with, and what is left of it.
use Rattle.std.specs.Prelude.{◌≡◌, ℕ, ◌<◌, ◌≤◌, true, IsTrue, List, [], length, map, flat_map, sum_by, Option, Some, None, slice_get}
use Rattle.std.specs.List.{range_with_len, AllZip}
use Rattle.i2c_base.specs.declared.caller.Caller.{Ghosts as CallerGhosts}
use Rattle.i2c_base.specs.declared.reply.Reply.{Reply}
use Rattle.i2c_base.specs.Board.{BoardView}
use Rattle.i2c_base.specs.Limits.{MOST_CALLERS}
use Rattle.ports.specs.declared.port.Port.{Ghosts as PortGhosts}
use Rattle.bus_core.specs.Kept.{roots_of}
use Rattle.bus_core.specs.Opens.{MayOpen, callers_scripts, numbers_in, opening_of}
use Rattle.bus_core.specs.Places.{scripts_of}
use Rattle.bus_core.specs.State.{CoreState, AllThrough, worlds_of, logs_of, taken_of}
use Rattle.bus_core.specs.declared.bus.ClosedCore.{ClosedCore}
use Rattle.bus_journal.specs.View.{JournalView}
use Rattle.i2c_base.specs.Transfer.{TransferView}
use Rattle.i2c_spec.specs.Tree.{buses, root_of}
use Rattle.bus_groups.specs.Homes.{names, homes_of, caller_home_at, AreByHomes}
use Rattle.bus_groups.specs.Slots.{IsTold}
use Rattle.bus_groups.specs.Shares.{parts_by, joined_by}
use Rattle.bus_groups.specs.declared.rounds.Share.{Share}
use Rattle.bus_groups.specs.declared.together.Ran.{Ran}

-- a core that was opened with a share, where there is one
abbrev pub IsOpenedWith : {P C S : Type 0} → PortGhosts P → CallerGhosts C S → BoardView → Share P C → Option (CoreState S) → Type 0
IsOpenedWith p c b share None = ⊥
IsOpenedWith p c b share (Some v) = (v.opening ≡ opening_of p c b share.ports.items share.callers.items)
    × (v.worlds ≡ worlds_of p.world share.ports.items)

-- the parts that a core is taken apart into
pub record IsLeftOf {P C S : Type 0} (p : PortGhosts P) (c : CallerGhosts C S) (v : CoreState S) (x : ClosedCore P C) : Type 0 where
  pub scripts : scripts_of c x.seats.items ≡ v.opening.scripts
  pub taken : taken_of c x.seats.items ≡ v.taken
  pub worlds : worlds_of p.world x.ports.items ≡ v.worlds
  pub logs : logs_of p.log x.ports.items ≡ v.logs
  pub journal : x.journal ≡ v.journal

abbrev pub AreLeftOf : {P C S : Type 0} → PortGhosts P → CallerGhosts C S → Option (CoreState S) → ClosedCore P C → Type 0
AreLeftOf p c None x = Unit {0}
AreLeftOf p c (Some v) x = IsLeftOf p c v x

-- what is left of cores, as of one core: its journal is theirs, one after the other
abbrev pub one_of : {P C : Type 0} → Ran P C → ClosedCore P C
one_of x =
    record {
      ports = x.ports;
      seats = x.seats;
      journal = record { entries = flat_map (λ (j : JournalView). j.entries) x.journals.items; room = 0; room_bytes = 0 };
    }

-- the state of a core over a board that these are left of
abbrev pub left_of : {P C S : Type 0} → PortGhosts P → CallerGhosts C S → BoardView → ClosedCore P C → CoreState S → CoreState S
left_of p c b x v =
    record v {
      opening = record v.opening { board = b; scripts = scripts_of c x.seats.items };
      taken = taken_of c x.seats.items;
      journal = x.journal;
      worlds = worlds_of p.world x.ports.items;
      logs = logs_of p.log x.ports.items;
    }

-- callers and ports came through a run: they are the same, in their order, and what is left of them is as of one core
pub record CameOut {P C S : Type 0} (p : PortGhosts P) (c : CallerGhosts C S) (b : BoardView) (ports : List (ℕ × P)) (callers : List (ℕ × C))
    (x : ClosedCore P C) : Type 0 where
  pub scripts : scripts_of c x.seats.items ≡ callers_scripts c callers
  pub roots : roots_of x.ports.items ≡ roots_of ports
  pub told : (v : CoreState S) → IsTrue p.tells → IsTold c.asked (left_of p c b x v)
  pub through : (v : CoreState S) → AllThrough c.asked p.tells (left_of p c b x v)

-- they came through a run in groups: their journals stand one after the other
pub record HaveRun {P C S : Type 0} (p : PortGhosts P) (c : CallerGhosts C S) (b : BoardView) (masks : List ℕ) (ports : List (ℕ × P))
    (callers : List (ℕ × C)) (x : Ran P C) : Type 0 where
  pub came : CameOut p c b ports callers (one_of x)
  pub groups : IsTrue p.tells → AreByHomes (caller_home_at (homes_of (length b.roots) masks) masks) (one_of x).journal.entries

-- cores were opened with the shares of the homes
pub record AreBegun {P C S : Type 0} (p : PortGhosts P) (c : CallerGhosts C S) (b : BoardView) (roots callers_at : List ℕ) (many : ℕ)
    (ports : List (ℕ × P)) (callers : List (ℕ × C)) (slots : List (Option (CoreState S))) : Type 0 where
  pub shares : List (Share P C)
  pub ports_of : map (λ s. s.ports.items) shares ≡ parts_by roots many ports
  pub callers_of : map (λ s. s.callers.items) shares ≡ parts_by callers_at many callers
  pub opened : AllZip (λ s o. IsOpenedWith p c b s o) shares slots

-- what is left of the cores is put together
pub record AreEnded {P C S : Type 0} (p : PortGhosts P) (c : CallerGhosts C S) (roots callers_at : List ℕ) (slots : List (Option (CoreState S)))
    (x : ClosedCore P C) : Type 0 where
  pub parts : List (ClosedCore P C)
  pub left : AllZip (λ o y. AreLeftOf p c o y) slots parts
  pub ports : x.ports.items ≡ joined_by roots (map (λ y. y.ports.items) parts)
  pub seats : x.seats.items ≡ joined_by callers_at (map (λ y. y.seats.items) parts)
  pub entries : x.journal.entries ≡ flat_map (λ y. y.journal.entries) parts

-- what each caller's transfers name is told by the bits of its mask
abbrev pub AreNamed : {C S : Type 0} → CallerGhosts C S → BoardView → List ℕ → List (ℕ × C) → Type 0
AreNamed {C} c b masks callers = (i m : ℕ) (x : ℕ × C) (rs : List Reply) (t : TransferView) → slice_get masks i ≡ Some m
    → slice_get callers i ≡ Some x → c.asked (c.script x.1) rs ≡ Some t → t.bus < buses b
    → names m (root_of b t.bus) ≡ true

-- each caller has at most so many steps left
abbrev pub AreCosts : {C S : Type 0} → CallerGhosts C S → List ℕ → List (ℕ × C) → Type 0
AreCosts {C} c costs callers = (i n : ℕ) (x : ℕ × C) → slice_get costs i ≡ Some n → slice_get callers i ≡ Some x → c.left (c.script x.1) [] ≤ n

-- ports and callers that a core may be opened with stand at their numbers, a port for each root; and of each caller it is told
-- which roots it names, and what it costs
pub record MayRun {P C S : Type 0} (p : PortGhosts P) (c : CallerGhosts C S) (b : BoardView) (masks costs : List ℕ) (ports : List (ℕ × P))
    (callers : List (ℕ × C)) : Type 0 where
  pub may : MayOpen p c b ports callers (sum_by (λ n. n) costs)
  pub roots : roots_of ports ≡ range_with_len 0 (length b.roots)
  pub numbers : numbers_in callers ≡ range_with_len 0 (length masks)
  pub few : length masks ≤ MOST_CALLERS
  pub named : AreNamed c b masks callers
  pub costs_count : length costs ≡ length masks
  pub covered : AreCosts c costs callers

-- some core, of which nothing is meant: what `left_of` keeps of it nobody reads
abbrev pub no_core : {S : Type 0} → BoardView → CoreState S
no_core b =
    record {
      opening = record { board = b; scripts = []; worlds = [] };
      taken = [];
      journal = record { entries = []; room = 0; room_bytes = 0 };
      locks = record { depths = []; roots = []; buses = []; marks = []; kept = [] };
      worlds = [];
      logs = [];
      setups = [];
    }
