-- What the words of a command line ask of the laboratory, and how a call ends.
use Rattle.std.specs.Prelude.{◌≡◌, ℕ, List, Option, None, Some, codes, if◌then◌else◌}
use Rattle.tools.specs.Readers.{word_at}
use Rattle.i2c_top.specs.Endings.{HasEndedAs, IsTurnedDown}
use Rattle.i2c_top.specs.Traces.{Outside, RigView}
use Rattle.i2c_top.specs.declared.status.Status.{Status}
use Rattle.i2c_top.specs.forms.Extras.{ExtraNames, extra_names}
use Rattle.i2c_lab.specs.Faults.{faults_form, is_faults}
use Rattle.i2c_lab.specs.SessionForm.{HasEndedSession, InputView, is_session}
use Rattle.i2c_lab.specs.Waves.{is_waves, waves_form}

-- to replay scripts while the calls of a list fail, or to write the waves of such a run, by the names of the files; and to hold a session over
-- the board of a file
pub data Request : Type 0 where
  Faults : (names : ExtraNames) → Request
  Waves : (names : ExtraNames) → Request
  Session : (board : List ℕ) → Request

-- what the words ask for, where they are in a form in force
abbrev pub request_in : List (List ℕ) → Option Request
request_in words =
    if is_faults words then Some (Faults (extra_names words)) else
    if is_waves words then Some (Waves (extra_names words)) else
    if is_session words then Some (Session (word_at words 1)) else None

-- the line on usage
abbrev pub usage_text : List ℕ
usage_text = codes "usage: i2clab faults BOARD FAULTS SCHEDULE SCRIPT... | waves BOARD ROOT SCHEDULE SCRIPT... | session BOARD\n"

-- the same shelf and output, with another rig
abbrev pub over_rig : Outside → RigView → Outside
over_rig o rig = record { shelf = o.shelf; sink = o.sink; rig = rig }

-- a rig is as it was, and no line was taken off the input
pub record AreUnused (rig rig_now : RigView) (input input_now : InputView) : Type 0 where
  pub same_rig : rig_now ≡ rig
  pub same_input : input_now ≡ input

-- how a call ends, by what its words ask for, with the rig of failing ports among what is outside, and beside it the rig of wires and the
-- input; what a form has no use for is left as it was
abbrev pub HasEnded : Option Request → (old new : Outside) → (wires wires_now : RigView) → (input input_now : InputView) → Status → Type 0
HasEnded None old new wires wires_now input input_now result =
    IsTurnedDown usage_text old new result × AreUnused wires wires_now input input_now
HasEnded (Some (Faults names)) old new wires wires_now input input_now result =
    HasEndedAs (faults_form names) old new result × AreUnused wires wires_now input input_now
HasEnded (Some (Waves names)) old new wires wires_now input input_now result =
    HasEndedAs (waves_form names) (over_rig old wires) (over_rig new wires_now) result × AreUnused old.rig new.rig input input_now
HasEnded (Some (Session board)) old new wires wires_now input input_now result =
    HasEndedSession board old new input input_now result × (wires_now ≡ wires)
