-- When the same calls of the ports fail in two runs, that two runs come to the same, the schedule that a run's own steps are, and the
-- files by which its report is verified.
use Rattle.std.specs.Prelude.{◌≡◌, ◌<◌, ◌↔◌, ℕ, List, length, map, slice_get, Some}
use Rattle.i2c_base.specs.declared.entry.Entry.{Entry}
use Rattle.i2c_base.specs.declared.port.PortCall.{PortCall}
use Rattle.i2c_base.specs.Board.{BoardView}
use Rattle.i2c_spec.specs.Targets.{TargetState}
use Rattle.bus_spec.specs.Schedule.{turns}
use Rattle.i2c_top.specs.Faults.{FaultAt}
use Rattle.i2c_top.specs.Readings.{AreNamed}
use Rattle.i2c_top.specs.Runs.{HasRun}
use Rattle.i2c_top.specs.forms.Replays.{Names}
use Rattle.i2c_top.specs.forms.Verifies.{VerifyNames}

-- call n of the log of a root was made
pub record IsMadeAt (logs : List (List PortCall)) (root n : ℕ) : Type 0 where
  pub log : List PortCall
  pub here : slice_get logs root ≡ Some log
  pub low : n < length log

-- of the calls that both of two runs made, the same are faults in their logs
abbrev pub FaultsAlike : List (List PortCall) → List (List PortCall) → Type 0
FaultsAlike logs others =
    (root n : ℕ) → IsMadeAt logs root n → IsMadeAt others root n → FaultAt logs root n ↔ FaultAt others root n

-- two runs come to the same: the bytes of the report, the logs, and the devices left
pub record ComesToTheSame (x y : List ℕ) (logs others : List (List PortCall)) (states : List TargetState)
    (ends : List TargetState) : Type 0 where
  pub bytes : x ≡ y
  pub logs_are : logs ≡ others
  pub states_are : states ≡ ends

-- the callers of the steps of a journal, in order
abbrev pub steps_of : List Entry → List ℕ
steps_of journal = map (λ t. t.caller) (turns journal)

-- by a schedule the scripts have this run; its words are of callers; and each run by it in which the same calls fail comes to
-- the same
pub record IsTheReplay (b : BoardView) (texts : List (List ℕ)) (words : List ℕ) (bytes : List ℕ) (logs : List (List PortCall))
    (states : List TargetState) (counts : List ℕ) : Type 0 where
  pub named : AreNamed (length texts) (Some words)
  pub run : HasRun b texts (Some words) bytes logs states counts
  pub only : (other_bytes : List ℕ) (others : List (List PortCall)) (ends : List TargetState) (other_counts : List ℕ)
      → HasRun b texts (Some words) other_bytes others ends other_counts → FaultsAlike logs others
      → ComesToTheSame bytes other_bytes logs others states ends

-- the files of a run, and one that has its report, as `verify` names them
abbrev pub beside : Names → List ℕ → VerifyNames
beside names journal = record { board = names.board; journal = journal; scripts = names.scripts }
