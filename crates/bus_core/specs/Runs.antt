-- What a caller's step leaves of the core, and what is left when all are through.
use Rattle.std.specs.Prelude.{◌≡◌, ℕ, ◌<◌, IsTrue, List, reverse, Some, slice_get}
use Rattle.i2c_base.specs.declared.caller.Caller.{Ghosts as CallerGhosts}
use Rattle.i2c_base.specs.declared.entry.Entry.{Entry}
use Rattle.i2c_base.specs.Limits.{MOST_CALLERS}
use Rattle.ports.specs.declared.port.Port.{Ghosts as PortGhosts}
use Rattle.bus_laws.specs.Following.{KeepsTo}
use Rattle.bus_laws.specs.Ready.{IsStuck}
use Rattle.bus_core.specs.Kept.{asks_in, HasTurn, HasCome}
use Rattle.bus_core.specs.Ready.{AreHeldUpBelow}
use Rattle.bus_core.specs.declared.parts.CoreInside.{CoreInside}

-- a caller made a step
pub record HasMade {P C S : Type 0} (p : PortGhosts P) (c : CallerGhosts C S) (caller : ℕ) (old new : CoreInside P C) : Type 0 where
  pub come : HasCome p c old new
  pub room : new.journal.room < old.journal.room
  pub turn : IsTrue p.tells → HasTurn old.board (asks_in c old) caller old.journal.entries new.journal.entries

-- it made none: by the journal it waits for a lock that somebody has, or has finished
pub record HasWaited {P C S : Type 0} (p : PortGhosts P) (c : CallerGhosts C S) (caller : ℕ) (old new : CoreInside P C) : Type 0 where
  pub same : new ≡ old
  pub stuck : IsTrue p.tells → IsStuck old.board (asks_in c old) (reverse old.journal.entries) caller

-- the least caller that could make a step made one: every caller below it is held up
pub record HasMadeLeast {P C S : Type 0} (p : PortGhosts P) (c : CallerGhosts C S) (old new : CoreInside P C) : Type 0 where
  pub caller : ℕ
  pub place : ℕ
  pub at : slice_get old.places.items caller ≡ Some (Some place)
  pub before : AreHeldUpBelow old caller
  pub made : HasMade p c caller old new

-- whatever comes later, the journal so far keeps to a schedule that goes on from a past, of which these words are left
abbrev pub KeepsSchedule : {P C S : Type 0} → PortGhosts P → CallerGhosts C S → List ℕ → List Entry → List ℕ → CoreInside P C → Type 0
KeepsSchedule p c words from left x =
    IsTrue p.tells → KeepsTo x.board MOST_CALLERS (asks_in c x) words from left (reverse x.journal.entries)
