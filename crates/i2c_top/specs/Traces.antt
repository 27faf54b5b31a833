-- The shelf, the output and the rig of a call as contracts see them, and what may be done to the rig.
use Rattle.std.specs.Prelude.{◌≡◌, ℕ, ◌≤◌, ◌⊎◌, Bool, false, IsTrue, List, Result, Err, IfErr, OnOk}
use Rattle.i2c_base.specs.declared.port.PortCall.{PortCall}
use Rattle.i2c_base.specs.Board.{BoardView}
use Rattle.i2c_spec.specs.Targets.{TargetState}
use Rattle.ports.specs.Causes.{Rose, counted}
use Rattle.i2c_outside.specs.declared.rig.Rig.{Ghosts as RigGhosts}
use Rattle.i2c_outside.specs.declared.shelf.Shelf.{Ghosts as ShelfGhosts}
use Rattle.i2c_outside.specs.declared.sink.Sink.{Ghosts as SinkGhosts}
use Rattle.i2c_top.specs.Files.{Files}
use Rattle.i2c_top.specs.declared.status.Status.{Status}
use Rattle.i2c_top.specs.declared.status.Status.TheVariants as status

-- it tells its files, and counts its faults by place
pub record ShelfView : Type 0 where
  pub tells : Bool
  pub words : List (List ℕ)
  pub file : Files
  pub faults : ℕ → ℕ

abbrev pub shelf_view : {S : Type 0} → ShelfGhosts S → S → ShelfView
shelf_view g s = record { tells = g.tells; words = g.words s; file = g.file s; faults = g.faults s }

-- it has the same words and files, and counted no fault but at these places
pub record KeepsBut (places : ℕ → Type 0) (old new : ShelfView) : Type 0 where
  pub words : new.words ≡ old.words
  pub files : (name : List ℕ) → new.file name ≡ old.file name
  pub others : (place : ℕ) → (places place → ⊥) → new.faults place ≡ old.faults place

-- a file at one of these places was not read, and its count shows it
pub record IsUnread (places : ℕ → Type 0) (reads reads_now : ℕ → ℕ) (place : ℕ) : Type 0 where
  pub named : places place
  pub rose : Rose (reads place) (reads_now place)

pub record OutputView : Type 0 where
  pub tells : Bool
  pub bytes : List ℕ
  pub faults : ℕ

abbrev pub output_view : {K : Type 0} → SinkGhosts K → K → OutputView
output_view g k = record { tells = g.tells; bytes = g.bytes k; faults = g.faults k }

pub record RigView : Type 0 where
  pub tells : Bool
  pub ports_tell : Bool
  pub faults : ℕ
  pub plugs : ℕ
  pub unplugs : ℕ
  pub plugged : Bool
  pub logs : List (List PortCall)
  pub states : List TargetState
  pub counts : List ℕ

abbrev pub rig_view : {R P : Type 0} → RigGhosts R P → Bool → R → RigView
rig_view g ports_tell r =
    record {
      tells = g.tells;
      ports_tell = ports_tell;
      faults = g.faults r;
      plugs = g.plugs r;
      unplugs = g.unplugs r;
      plugged = g.plugged r;
      logs = g.logs r;
      states = g.states r;
      counts = g.port_faults r;
    }

-- the three of them
pub record Outside : Type 0 where
  pub shelf : ShelfView
  pub sink : OutputView
  pub rig : RigView

abbrev pub outside : {S K R P : Type 0} → ShelfGhosts S → SinkGhosts K → RigGhosts R P → Bool → S → K → R → Outside
outside shelf sink rig ports_tell s k r = record { shelf = shelf_view shelf s; sink = output_view sink k; rig = rig_view rig ports_tell r }

-- an output and a rig, beside any shelf
abbrev pub around : {K R P : Type 0} → ShelfView → SinkGhosts K → RigGhosts R P → Bool → K → R → Outside
around shelf sink rig ports_tell k r = record { shelf = shelf; sink = output_view sink k; rig = rig_view rig ports_tell r }

-- a shelf and an output beside any rig
abbrev pub beside : {S K : Type 0} → RigView → ShelfGhosts S → SinkGhosts K → S → K → Outside
beside rig shelf sink s k = record { shelf = shelf_view shelf s; sink = output_view sink k; rig = rig }

-- the rig was not plugged
pub record IsUntouched (old new : RigView) : Type 0 where
  pub plugs : new.plugs ≡ old.plugs
  pub unplugs : new.unplugs ≡ old.unplugs

-- one plug was made, and failed
pub record IsTried (old new : RigView) : Type 0 where
  pub plugs : new.plugs ≡ counted old.plugs
  pub unplugs : new.unplugs ≡ old.unplugs
  pub unplugged : new.plugged ≡ false

-- one plug went through, and one unplug followed it
pub record IsUsed (old new : RigView) : Type 0 where
  pub plugs : new.plugs ≡ counted old.plugs
  pub unplugs : new.unplugs ≡ counted old.unplugs
  pub unplugged : new.plugged ≡ false

-- a count went up by one, or not at all
abbrev pub IsAtMostOnce : ℕ → ℕ → Type 0
IsAtMostOnce old new = (new ≡ old) ⊎ (new ≡ counted old)

-- one plug was made, at most one unplug followed it, and the rig is not left plugged
pub record IsPluggedOnce (old new : RigView) : Type 0 where
  pub plugs : new.plugs ≡ counted old.plugs
  pub unplugs : IsAtMostOnce old.unplugs new.unplugs
  pub unplugged : new.plugged ≡ false

abbrev pub IsRigLeft : RigView → RigView → Type 0
IsRigLeft old new = IsUntouched old new ⊎ IsPluggedOnce old new

-- a rig that was plugged was unplugged, and may have counted faults
pub record IsUnplugged (old new : RigView) : Type 0 where
  pub later : old.faults ≤ new.faults
  pub plugs : new.plugs ≡ old.plugs
  pub unplugs : new.unplugs ≡ counted old.unplugs
  pub unplugged : new.plugged ≡ false

-- the ports of a board that a rig was given back are set up as it did, where a run came to its end
abbrev pub AreReturned : {R P X : Type 0} → RigGhosts R P → BoardView → (old new : R) → Result X Status → Type 0
AreReturned g b old new result = IsTrue g.tells → OnOk result (g.returned new ≡ g.setups old b)

-- a run over a rig plugged it once, and did not leave it plugged, whatever came of it. It failed without memory, or where the rig counted
-- a fault in that plug
pub record IsRunOver {X : Type 0} (old new : RigView) (result : Result X Status) : Type 0 where
  pub failed : IfErr result (λ e. (e ≡ status.Rig) ⊎ (e ≡ status.Memory))
  pub rig : result ≡ Err status.Rig → Rose old.faults new.faults
  pub later : old.faults ≤ new.faults
  pub plugs : new.plugs ≡ counted old.plugs
  pub unplugs : OnOk result (new.unplugs ≡ counted old.unplugs)
  pub none : result ≡ Err status.Rig → new.unplugs ≡ old.unplugs
  pub once : IsAtMostOnce old.unplugs new.unplugs
  pub unplugged : new.plugged ≡ false
