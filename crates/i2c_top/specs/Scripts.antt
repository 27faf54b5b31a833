-- What the files of scripts and of a schedule say: that they are in their grammar, or the first place that isn't.
use Rattle.std.specs.Prelude.{⊤, ◌≡◌, ℕ, ◌<◌, List, [], map, slice_get, unwrap_or, Option, None, Some, Ok, Err}
use Rattle.i2c_base.specs.Board.{BoardView}
use Rattle.caller_core.specs.Scripts.{script_read, commands_of}
use Rattle.caller_core.specs.View.{script_on}
use Rattle.i2c_top.specs.Files.{Files, bytes_in}
use Rattle.i2c_top.specs.Schedules.{schedule_read}

-- the name of the script with this number
abbrev pub script_name : List (List ℕ) → ℕ → List ℕ
script_name names c = unwrap_or (slice_get names c) []

-- a text is in the grammar, where it is read over a board
abbrev pub IsInGrammar : BoardView → List ℕ → Type 0
IsInGrammar b text = script_read (script_on b text) ≡ Ok (commands_of (script_on b text))

-- a script's file is there, and in the grammar
pub record HasScript (file : Files) (b : BoardView) (name : List ℕ) : Type 0 where
  pub text : List ℕ
  pub there : file name ≡ Some text
  pub read : IsInGrammar b text

-- it is there, and this line is its first that is not in the grammar, with its refused word
pub record HasBadScript (file : Files) (b : BoardView) (name : List ℕ) (line word : ℕ) : Type 0 where
  pub text : List ℕ
  pub there : file name ≡ Some text
  pub read : script_read (script_on b text) ≡ Err (record { line = line; word = word })

-- the files of the first so many scripts are there, and in the grammar
abbrev pub HasScripts : Files → BoardView → List (List ℕ) → ℕ → Type 0
HasScripts file b names n = (c : ℕ) → c < n → HasScript file b (script_name names c)

-- the scripts' texts
abbrev pub texts_in : Files → List (List ℕ) → List (List ℕ)
texts_in file names = map (bytes_in file) names

-- the words of some text name these callers, among so many
pub record AreScheduled (callers : ℕ) (words : List ℕ) : Type 0 where
  pub text : List ℕ
  pub read : schedule_read callers text ≡ Ok words

-- .. where there is a schedule; without one there are none
abbrev pub AreOrdered : Option (List ℕ) → ℕ → Option (List ℕ) → Type 0
AreOrdered None callers words = words ≡ None
AreOrdered (Some name) callers words = (ws : List ℕ) × (words ≡ Some ws) × AreScheduled callers ws

-- the schedule's file is there, and its words name these callers, among so many
pub record HasSchedule (file : Files) (name : List ℕ) (callers : ℕ) : Type 0 where
  pub text : List ℕ
  pub words : List ℕ
  pub there : file name ≡ Some text
  pub read : schedule_read callers text ≡ Ok words

-- it is there, and this word is its first that is no caller's number, or one too many
pub record HasBadSchedule (file : Files) (name : List ℕ) (callers word : ℕ) : Type 0 where
  pub text : List ℕ
  pub there : file name ≡ Some text
  pub fault : schedule_read callers text ≡ Err word

-- the same of a schedule, where there is one
abbrev pub HasOrder : Files → Option (List ℕ) → ℕ → Type 0
HasOrder file None callers = ⊤
HasOrder file (Some name) callers = HasSchedule file name callers

abbrev pub HasBadOrder : Files → Option (List ℕ) → ℕ → ℕ → Type 0
HasBadOrder file None callers word = ⊥
HasBadOrder file (Some name) callers word = HasBadSchedule file name callers word

-- the callers that its words name
abbrev pub words_in : (file : Files) (schedule : Option (List ℕ)) (callers : ℕ) → HasOrder file schedule callers → Option (List ℕ)
words_in file None callers has = None
words_in file (Some name) callers has = Some has.words
