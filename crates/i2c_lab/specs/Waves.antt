-- `waves BOARD ROOT SCHEDULE SCRIPT...`, with 1 to 8 scripts: a replay, of which the levels of the two wires of one root are written.
use Rattle.std.specs.Prelude.{◌≡◌, ℕ, ◌<◌, ◌≤◌, Bool, true, ◌&&◌, List, Some, codes, is_some, length, slice_get, unwrap_or}
use Rattle.i2c_base.specs.Board.{BoardView}
use Rattle.i2c_base.specs.declared.port.PortCall.{PortCall}
use Rattle.i2c_spec.specs.Targets.{TargetState}
use Rattle.i2c_bits.specs.PortViews.{BitPortView}
use Rattle.tools.specs.Readers.{word_at}
use Rattle.bus_waves.specs.Waves.{IsWave}
use Rattle.i2c_top.specs.Files.{Files}
use Rattle.i2c_top.specs.Form.{Form}
use Rattle.i2c_top.specs.Numbers.{number_named}
use Rattle.i2c_top.specs.Runs.{HasRun}
use Rattle.i2c_top.specs.declared.status.Status.{Status}
use Rattle.i2c_top.specs.declared.status.Status.TheVariants as status
use Rattle.i2c_top.specs.forms.Extras.{ExtraNames, ExtraRow, HasWrittenExtra, extra_form, is_extra}

-- a root is named by a number up to this, which is no board's root
abbrev pub LAST_ROOT : ℕ
LAST_ROOT = 65535

-- `waves`, and the name of a board, a number, and the names of a schedule and at least one script, at most one for each caller
abbrev pub is_waves : List (List ℕ) → Bool
is_waves words = is_extra (codes "waves") words && is_some (number_named 0 LAST_ROOT (word_at words 2))

-- the number that a word spells in decimal; one that spells none stands for no root
abbrev pub root_named : List ℕ → ℕ
root_named word = unwrap_or (number_named 0 LAST_ROOT word) LAST_ROOT

-- the word names this root of a board, or none of its roots
pub record NamesRoot (b : BoardView) (word : List ℕ) (root : ℕ) : Type 0 where
  pub named : root ≡ root_named word
  pub there : root < length b.roots

pub record NamesNoRoot (b : BoardView) (word : List ℕ) (s : Status) : Type 0 where
  pub same : s ≡ status.NoRoot (root_named word)
  pub none : length b.roots ≤ root_named word

-- scripts of these texts that follow the words have run over the board, and these bytes are the waves of a root over that run, of the calls
-- that were made on it
pub record HasWaved (b : BoardView) (root : ℕ) (texts : List (List ℕ)) (words bytes : List ℕ) (logs : List (List PortCall))
    (states : List TargetState) (counts : List ℕ) : Type 0 where
  pub report : List ℕ
  pub run : HasRun b texts (Some words) report logs states counts
  pub log : List PortCall
  pub its : slice_get logs root ≡ Some log
  pub wave : IsWave b root log bytes

-- the word names a root; and what is written are its waves over a replay of the scripts
abbrev pub wave_row : ExtraRow ℕ
wave_row = record { in_word = true; spells = NamesRoot; fails = NamesNoRoot; runs = HasWaved }

-- THE ROW: it reads the board and the scripts, the word, and the schedule, and plugs the rig; a success writes the waves of the run
abbrev pub waves_form : ExtraNames → Form
waves_form names = extra_form wave_row names

-- the waves were written after what stood there
abbrev pub HasDumped : Files → ExtraNames → (before now : List ℕ) → List (List PortCall) → List TargetState → List ℕ → Type 0
HasDumped file names before now logs states counts = HasWrittenExtra wave_row file names before now logs states counts

-- a port stands at the number of a root, and these are its waves
pub record IsWaveAt (ports : List BitPortView) (root : ℕ) (text : List ℕ) : Type 0 where
  pub port : BitPortView
  pub at : slice_get ports root ≡ Some port
  pub wave : port.world.root ≡ root → IsWave port.world.board root port.log text
