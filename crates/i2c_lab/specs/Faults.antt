-- `faults BOARD FAULTS SCHEDULE SCRIPT...`, with 1 to 8 scripts: a replay in which the calls fail that a list names.
use Rattle.std.specs.Prelude.{◌≡◌, ℕ, Bool, false, List, Some, length, map, codes}
use Rattle.std.specs.List.{range_with_len}
use Rattle.i2c_base.specs.declared.port.PortCall.{PortCall}
use Rattle.i2c_spec.specs.Targets.{TargetState}
use Rattle.i2c_physics.specs.FailPorts.{HaveFailedJustAt, fails_on}
use Rattle.i2c_top.specs.Files.{Files}
use Rattle.i2c_top.specs.Form.{Form}
use Rattle.i2c_top.specs.Runs.{HasRun}
use Rattle.i2c_top.specs.forms.Extras.{ExtraNames, ExtraRow, HasExtraFiles, HasWrittenExtra, extra_form, is_extra}
use Rattle.i2c_lab.specs.CallLists.{IsListFault, ListsCalls}

-- `faults`, and the names of a board, a list of calls, a schedule and at least one script, at most one for each caller
abbrev pub is_faults : List (List ℕ) → Bool
is_faults words = is_extra (codes "faults") words

-- the text spells the calls that it lists; and the run is a replay of the scripts over the board, whichever calls fail in it
abbrev pub list_row : ExtraRow (List (ℕ × ℕ))
list_row = record {
  in_word = false;
  spells = ListsCalls;
  fails = IsListFault;
  runs = λ b calls texts words bytes logs states counts. HasRun b texts (Some words) bytes logs states counts;
}

-- THE ROW: it reads the board, the scripts, the list and the schedule, and plugs the rig; a success writes the report of the run
abbrev pub faults_form : ExtraNames → Form
faults_form names = extra_form list_row names

-- the report was written after what stood there
abbrev pub HasFaulted : Files → ExtraNames → (before now : List ℕ) → List (List PortCall) → List TargetState → List ℕ → Type 0
HasFaulted file names before now logs states counts = HasWrittenExtra list_row file names before now logs states counts

-- these are the calls on the ports, one list for each root of the board, and on each a call failed just where the list names it
pub record HasFailedAsListed (file : Files) (names : ExtraNames) (logs : List (List PortCall)) : Type 0 where
  pub files : HasExtraFiles list_row file names
  pub count : length logs ≡ length files.texts.files.scripts.board.board.roots
  pub failed : HaveFailedJustAt (map (fails_on files.texts.files.extra.value)
      (range_with_len 0 (length files.texts.files.scripts.board.board.roots))) logs
