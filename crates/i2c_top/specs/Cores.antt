-- A core of callers and ports: what it is opened with, and what is left of it when each caller is through.
use Rattle.std.specs.Prelude.{◌≡◌, ℕ, ◌≤◌, IsTrue, List, [], length, map, All, Result, Ok}
use Rattle.std.specs.List.{enumerate_from}
use Rattle.i2c_base.specs.declared.caller.Caller.{Ghosts as CallerGhosts}
use Rattle.i2c_base.specs.declared.entry.Entry.{Entry}
use Rattle.i2c_base.specs.declared.port.Phase.TheVariants.{Idle}
use Rattle.i2c_base.specs.declared.port.PortCall.{PortCall}
use Rattle.i2c_base.specs.Board.{BoardView}
use Rattle.i2c_base.specs.Limits.{MOST_CALLERS}
use Rattle.ports.specs.declared.port.Port.{Ghosts as PortGhosts}
use Rattle.i2c_spec.specs.Fair.{IsFairCaller}
use Rattle.i2c_spec.specs.Plain.{IsPlainBoard}
use Rattle.i2c_spec.specs.Rules.{MeetsRules}
use Rattle.i2c_spec.specs.Targets.{TargetState}
use Rattle.i2c_spec.specs.World.{World, AreWorldsOf, devices_of, openings}
use Rattle.bus_core.specs.Kept.{roots_of}
use Rattle.bus_core.specs.State.{CoreState, roots_in}
use Rattle.bus_core.specs.declared.bus.ClosedCore.{ClosedCore}
use Rattle.bus_groups.specs.Rounds.{one_of}
use Rattle.bus_groups.specs.declared.together.Ran.{Ran}
use Rattle.i2c_top.specs.Callers.{AreReady, left_in, scripts_in, callers_in, IsOver}
use Rattle.i2c_top.specs.Faults.{AreCounted}
use Rattle.i2c_top.specs.Runs.{MOST_COST}

-- the ports are one for each root of a board, idle, and where they tell with empty logs and the opening worlds
pub record AreFresh {P : Type 0} (g : PortGhosts P) (b : BoardView) (ports : List P) : Type 0 where
  pub count : length ports ≡ length b.roots
  pub idle : All (λ p. g.phase p ≡ Idle) ports
  pub empty : IsTrue g.tells → All (λ p. g.log p ≡ []) ports
  pub worlds : IsTrue g.tells → map g.world ports ≡ openings b

-- callers that may run over a board with so many steps: they are ready and fair, few enough and cheap enough, and the ports are
-- fresh
pub record MayRun {P C S : Type 0} (g : PortGhosts P) (k : CallerGhosts C S) (b : BoardView) (callers : List C) (ports : List P)
    (limit : ℕ) : Type 0 where
  pub ready : AreReady k b callers
  pub fair : IsFairCaller k.asked k.left k.board
  pub few : length callers ≤ MOST_CALLERS
  pub covered : left_in k callers ≤ limit
  pub cheap : limit ≤ MOST_COST
  pub fresh : AreFresh g b ports

-- a core over an accepted board that was opened with these callers and ports, each by its number
pub record IsCoreOf {P C S : Type 0} (k : CallerGhosts C S) (b : BoardView) (callers : List C) (ports : List P) (core : CoreState S)
    : Type 0 where
  pub plain : IsPlainBoard b
  pub rules : MeetsRules b
  pub count : length ports ≡ length b.roots
  pub board : core.opening.board ≡ b
  pub scripts_are : core.opening.scripts ≡ map (λ (y : ℕ × C). (y.0, k.script y.1)) (enumerate_from 0 callers)
  pub roots : roots_in core ≡ roots_of (enumerate_from 0 ports)

-- what is left of one core, with its journal in a list
pub record IsAsOne {P C : Type 0} (parts : ClosedCore P C) (ran : Ran P C) : Type 0 where
  pub ports : ran.ports ≡ parts.ports
  pub seats : ran.seats ≡ parts.seats
  pub entries : (one_of ran).journal.entries ≡ parts.journal.entries

-- these are left of such a core: its callers are over, they are those that it was opened with, and there is a port for each root
pub record IsLeftOf {P C S : Type 0} (g : PortGhosts P) (k : CallerGhosts C S) (b : BoardView) (callers : List C) (ports : List P)
    (parts : ClosedCore P C) : Type 0 where
  pub over : IsTrue g.tells → IsOver k b (callers_in parts) MOST_CALLERS parts.journal.entries
      (map (λ (p : ℕ × P). g.world p.1) parts.ports.items) (map (λ (p : ℕ × P). g.log p.1) parts.ports.items)
  pub scripts : scripts_in k (callers_in parts) ≡ scripts_in k callers
  pub count : length parts.ports.items ≡ length ports

-- cores ran, and their journals, one after the other, are this one
pub record HaveJournal {P C E : Type 0} (ran : Result (Ran P C) E) (journal : List Entry) : Type 0 where
  pub left : Ran P C
  pub is : ran ≡ Ok left
  pub entries : (one_of left).journal.entries ≡ journal

-- what a rig tells of the ports that it was given back, by their worlds and logs: its devices and its logs where the worlds are
-- those of the board, and what the ports counted
pub record AreGivenBack (b : BoardView) (worlds : List World) (logs kept : List (List PortCall)) (states : List TargetState)
    (counts : List ℕ) : Type 0 where
  pub devices : AreWorldsOf b worlds → states ≡ devices_of b worlds
  pub logged : AreWorldsOf b worlds → kept ≡ logs
  pub counted : length logs ≡ length b.roots → AreCounted b logs counts

-- ports are left of a run whose worlds are those of a board; it is a run by their calls, the devices that they leave, and what they counted
pub record HasRunOver {P : Type 0} (g : PortGhosts P) (b : BoardView) (ports : List P)
    (run : List (List PortCall) → List TargetState → List ℕ → Type 0) : Type 0 where
  pub worlds : AreWorldsOf b (map g.world ports)
  pub by : run (map g.log ports) (devices_of b (map g.world ports)) (map g.faults ports)
