-- `atr BOARD MAP SCHEDULE SCRIPT...`, with 1 to 8 scripts: a replay by a map of address translators.
use Rattle.std.specs.Prelude.{ℕ, Bool, false, List, codes}
use Rattle.i2c_base.specs.declared.port.PortCall.{PortCall}
use Rattle.i2c_spec.specs.Targets.{TargetState}
use Rattle.addr_atr.specs.Callers.{AtrCallerView}
use Rattle.addr_atr.specs.MapTexts.{IsMapOf}
use Rattle.addr_atr.specs.Maps.{MapView}
use Rattle.caller_core.specs.View.{CallerView}
use Rattle.i2c_top.specs.Files.{Files}
use Rattle.i2c_top.specs.Form.{Form}
use Rattle.i2c_top.specs.MapFiles.{HasAtrRun, IsMapFault}
use Rattle.i2c_top.specs.forms.Extras.{ExtraNames, ExtraRow, HasWrittenExtra, extra_form, is_extra}

-- `atr`, and the names of a board, a map, a schedule and at least one script, at most one for each caller
abbrev pub is_atr : List (List ℕ) → Bool
is_atr words = is_extra (codes "atr") words

-- a map spells itself over a board, which is accepted as it is lowered; and the run is that over the lowered board
abbrev pub map_row : ExtraRow MapView
map_row = record {
  in_word = false;
  spells = IsMapOf;
  fails = IsMapFault;
  runs = λ b m texts words bytes logs states counts. HasAtrRun m texts words bytes logs states counts;
}

-- THE ROW: it reads the board, the scripts, the map and the schedule, and plugs the rig with the lowered board; a success writes the
-- report of a run over it
abbrev pub atr_form : ExtraNames → Form
atr_form names = extra_form map_row names

-- the report was written after what stood there
abbrev pub HasTranslated : Files → ExtraNames → (before now : List ℕ) → List (List PortCall) → List TargetState → List ℕ → Type 0
HasTranslated file names before now logs states counts = HasWrittenExtra map_row file names before now logs states counts

-- a script behind a map's translators, as a caller
abbrev pub behind_of : MapView → CallerView → AtrCallerView
behind_of m s = record { script = s; translators = m.translators }
