-- `FORM BOARD FILE SCHEDULE SCRIPT...`, with 1 to 8 scripts: a replay by one file more, or by one word more in its place. What its text says
-- over the board, and what a run by it is, is a row of facts; the words, what the files say where a call ends with a status, and its report are
-- told for any row.
use Rattle.std.specs.Prelude.{⊤, ◌≡◌, ℕ, ◌+◌, ◌<◌, ◌≤◌, ◌⊎◌, nat_le, Bool, true, false, ◌&&◌, if◌then◌else◌, IsTrue, List, ◌++◌, length, drop, map, slice_get, string_bytes, Option, None, Some}
use Rattle.std.specs.Str.{bytes_eq}
use Rattle.i2c_base.specs.declared.port.PortCall.{PortCall}
use Rattle.i2c_base.specs.Board.{BoardView}
use Rattle.i2c_base.specs.Limits.{MOST_CALLERS}
use Rattle.i2c_spec.specs.Targets.{TargetState}
use Rattle.tools.specs.Readers.{word_at}
use Rattle.i2c_top.specs.Boards.{HasAccepted, HasRejected}
use Rattle.i2c_top.specs.Files.{Files, OfSomeFiles}
use Rattle.i2c_top.specs.Form.{Form}
use Rattle.i2c_top.specs.Names.{are_names, AreNamesFrom}
use Rattle.i2c_top.specs.Runs.{cost_of_texts, MOST_COST}
use Rattle.i2c_top.specs.Scripts.{script_name, HasBadScript, HasScripts, HasSchedule, HasBadSchedule, texts_in}
use Rattle.i2c_top.specs.forms.Replays.{Names, names_of, HasScriptsBefore}
use Rattle.i2c_top.specs.Traces.{RigView}
use Rattle.i2c_top.specs.declared.extra_file.ExtraFile.{Ghosts as ExtraGhosts}
use Rattle.i2c_top.specs.declared.extra.ExtraWords.{ExtraWords}
use Rattle.i2c_top.specs.declared.status.Status.{Status}
use Rattle.i2c_top.specs.declared.status.Status.TheVariants as status

-- `in_word`: the text is the word itself, and no file is read. `spells`: over a board a text spells this. `fails`: this refusal is the first thing that is wrong with it. `runs`: by this, scripts of
-- these texts that follow the words are run over the board, and these bytes are the report, with what the rig then holds
pub record ExtraRow (V : Type 0) : Type 1 where
  pub in_word : Bool
  pub spells : BoardView → List ℕ → V → Type 0
  pub fails : BoardView → List ℕ → Status → Type 0
  pub runs : BoardView → V → (texts : List (List ℕ)) → (words bytes : List ℕ) → List (List PortCall) → List TargetState → List ℕ → Type 0

abbrev pub row_of : {V : Type 0} → ExtraGhosts V → ExtraRow V
row_of g = record { in_word = g.in_word; spells = g.spells; fails = g.fails; runs = g.runs }

-- its text, by the word that stands there: that of the file with this name, or the word
abbrev pub text_at : {V : Type 0} → ExtraRow V → Files → List ℕ → Option (List ℕ)
text_at x file word = if x.in_word then Some word else file word

-- a file more stands at this place
abbrev pub IsExtraFile : {V : Type 0} → ExtraRow V → ℕ → Type 0
IsExtraFile x place = (place ≡ 2) × (x.in_word ≡ false)

-- the refusals of such a text, which are no other text's
abbrev pub IsOfExtra : Status → Type 0
IsOfExtra (status.Map why) = ⊤
IsOfExtra (status.Faults word) = ⊤
IsOfExtra (status.NoRoot bus) = ⊤
IsOfExtra _ = ⊥

-- what every row keeps: its refusals are its own, and a text spells something or fails, with one refusal
pub record IsExtraRow {V : Type 0} (x : ExtraRow V) : Type 0 where
  pub own : (b : BoardView) (text : List ℕ) (s : Status) → x.fails b text s → IsOfExtra s
  pub either : (b : BoardView) (text : List ℕ) (v : V) (s : Status) → x.spells b text v → x.fails b text s → ⊥
  pub one : (b : BoardView) (text : List ℕ) (s r : Status) → x.fails b text s → x.fails b text r → r ≡ s

-- the form's name, and the names of a board, a file, a schedule and at least one script, at most one for each caller
abbrev pub is_extra : List ℕ → List (List ℕ) → Bool
is_extra form words =
    nat_le 5 (length words) && (nat_le (length words) (4 + MOST_CALLERS)
    && (bytes_eq (word_at words 0) form && are_names words))

-- what the files of a call are called
pub record ExtraNames : Type 0 where
  pub board : List ℕ
  pub extra : List ℕ
  pub schedule : List ℕ
  pub scripts : List (List ℕ)

abbrev pub extra_names : List (List ℕ) → ExtraNames
extra_names words = record { board = word_at words 1; extra = word_at words 2; schedule = word_at words 3; scripts = drop 4 words }

-- as many scripts
abbrev pub AreExtraLike : ExtraNames → ExtraNames → Type 0
AreExtraLike names others = length names.scripts ≡ length others.scripts

abbrev pub extra_told : ExtraWords → ExtraNames
extra_told words = record {
  board = words.board.now;
  extra = words.extra.now;
  schedule = words.schedule.now;
  scripts = map string_bytes words.scripts.now;
}

-- the board and the scripts are read as those of a run
abbrev pub as_run : ExtraNames → Names
as_run names = names_of names.board None names.scripts

-- a file of the call stands at this place
pub record IsExtraPlace {V : Type 0} (x : ExtraRow V) (names : ExtraNames) (place : ℕ) : Type 0 where
  pub first : 1 ≤ place
  pub last : place < 4 + length names.scripts
  pub file : place ≡ 2 → x.in_word ≡ false

-- the names stand at their places among the words
pub record AreExtraPlaced (words : List (List ℕ)) (names : ExtraNames) : Type 0 where
  pub board : slice_get words 1 ≡ Some names.board
  pub extra : slice_get words 2 ≡ Some names.extra
  pub schedule : slice_get words 3 ≡ Some names.schedule
  pub scripts : AreNamesFrom 4 words names.scripts
  pub some : 1 ≤ length names.scripts
  pub most : length names.scripts ≤ MOST_CALLERS

-- some text spells this over a board
pub record IsExtraSpelled {V : Type 0} (x : ExtraRow V) (board : BoardView) (v : V) : Type 0 where
  pub text : List ℕ
  pub spells : x.spells board text v

-- the text is there, and spells this over the board
pub record HasExtra {V : Type 0} (x : ExtraRow V) (file : Files) (board : BoardView) (name : List ℕ) : Type 0 where
  pub text : List ℕ
  pub there : text_at x file name ≡ Some text
  pub value : V
  pub spells : x.spells board text value

-- it is there, and this is the first thing that is wrong with it
pub record HasBadExtra {V : Type 0} (x : ExtraRow V) (file : Files) (board : BoardView) (name : List ℕ) (s : Status) : Type 0 where
  pub text : List ℕ
  pub there : text_at x file name ≡ Some text
  pub fails : x.fails board text s

-- there are a board, and scripts that are in the grammar
pub record HasExtraScripts (file : Files) (names : ExtraNames) : Type 0 where
  pub board : HasAccepted file names.board
  pub scripts : HasScripts file board.board names.scripts (length names.scripts)

-- .. and a file more that spells something over the board
pub record HasSpelled {V : Type 0} (x : ExtraRow V) (file : Files) (names : ExtraNames) : Type 0 where
  pub scripts : HasExtraScripts file names
  pub extra : HasExtra x file scripts.board.board names.extra

-- .. and a schedule
pub record HasExtraTexts {V : Type 0} (x : ExtraRow V) (file : Files) (names : ExtraNames) : Type 0 where
  pub files : HasSpelled x file names
  pub schedule : HasSchedule file names.schedule (length names.scripts)

-- what the scripts cost over the board as written
abbrev pub extra_cost : Files → ExtraNames → BoardView → ℕ
extra_cost file names b = cost_of_texts b (texts_in file names.scripts)

-- .. and the scripts don't cost too much
pub record HasExtraFiles {V : Type 0} (x : ExtraRow V) (file : Files) (names : ExtraNames) : Type 0 where
  pub texts : HasExtraTexts x file names
  pub cheap : extra_cost file names texts.files.scripts.board.board ≤ MOST_COST

-- .. or they do, for so much
pub record HasDearExtra {V : Type 0} (x : ExtraRow V) (file : Files) (names : ExtraNames) (cost : ℕ) : Type 0 where
  pub texts : HasExtraTexts x file names
  pub same : cost ≡ extra_cost file names texts.files.scripts.board.board
  pub dear : MOST_COST < cost

-- there are a board and scripts, and this is what is wrong with the file more
pub record HasMisspelled {V : Type 0} (x : ExtraRow V) (file : Files) (names : ExtraNames) (s : Status) : Type 0 where
  pub scripts : HasExtraScripts file names
  pub bad : HasBadExtra x file scripts.board.board names.extra s

-- what the files say where the call ends with a status that they decide: success, and each refusal of a file's text
abbrev pub IsExtraCause : {V : Type 0} → ExtraRow V → Files → ExtraNames → Status → Type 0
IsExtraCause x file names status.Ok = HasExtraFiles x file names
IsExtraCause x file names (status.Board why) = HasRejected file names.board why
IsExtraCause x file names (status.Script caller line word) =
    (earlier : HasScriptsBefore file (as_run names) caller) × HasBadScript file earlier.board.board (script_name names.scripts caller) line word
IsExtraCause x file names (status.Schedule word) = HasSpelled x file names × HasBadSchedule file names.schedule (length names.scripts) word
IsExtraCause x file names (status.Cost cost) = HasDearExtra x file names cost
IsExtraCause x file names s = HasMisspelled x file names s

-- a script is read at its place: there is a board, and the scripts before it are in the grammar
pub record IsExtraScriptInTurn (file : Files) (names : ExtraNames) (place : ℕ) : Type 0 where
  pub caller : ℕ
  pub at : place ≡ 4 + caller
  pub earlier : HasScriptsBefore file (as_run names) caller

-- the order of refusals: the board is read at place 1; there is a board before the scripts are read, one after the other; all of them
-- are in the grammar before the file more is read, at place 2, and that is well formed before the schedule is, at place 3
abbrev pub IsExtraTurn : {V : Type 0} → ExtraRow V → Files → ExtraNames → ℕ → Type 0
IsExtraTurn x file names place =
    (place ≡ 1) ⊎ (IsExtraScriptInTurn file names place
    ⊎ (((place ≡ 2) × HasExtraScripts file names)
    ⊎ ((place ≡ 3) × HasSpelled x file names)))

-- the file at this other place is read after the one at a place: the file more is read after the scripts, and the schedule last
pub record IsExtraAfter (place other : ℕ) : Type 0 where
  pub not_last : place ≡ 3 → ⊥
  pub last : place ≡ 2 → other ≡ 3
  pub later : (other ≡ 3) ⊎ ((other ≡ 2) ⊎ (place < other))

-- with these refusals the call ends before it comes to the files that would be read after the refused one
abbrev pub IsExtraSkipped : Status → ℕ → Type 0
IsExtraSkipped (status.Board why) other = IsExtraAfter 1 other
IsExtraSkipped (status.Script caller line word) other = IsExtraAfter (4 + caller) other
IsExtraSkipped (status.Read place) other = IsExtraAfter place other
IsExtraSkipped s other = IsOfExtra s × IsExtraAfter 2 other

-- some text over some board is refused so
pub record IsExtraFault {V : Type 0} (x : ExtraRow V) (s : Status) : Type 0 where
  pub board : BoardView
  pub text : List ℕ
  pub fails : x.fails board text s

-- the refusals of a text
abbrev pub IsExtraRefusal : {V : Type 0} → ExtraRow V → Status → Type 0
IsExtraRefusal x (status.Board why) = ⊤
IsExtraRefusal x (status.Script caller line word) = ⊤
IsExtraRefusal x (status.Schedule word) = ⊤
IsExtraRefusal x (status.Cost cost) = MOST_COST < cost
IsExtraRefusal x s = IsExtraFault x s

-- the files are there, well formed and within the cost, and these bytes are the report of a run by them
pub record HasExtraReport {V : Type 0} (x : ExtraRow V) (file : Files) (names : ExtraNames) (bytes : List ℕ) (logs : List (List PortCall))
    (states : List TargetState) (counts : List ℕ) : Type 0 where
  pub files : HasExtraFiles x file names
  pub run : x.runs files.texts.files.scripts.board.board files.texts.files.extra.value (texts_in file names.scripts)
      files.texts.schedule.words bytes logs states counts

-- the report was written after what stood there
pub record HasWrittenExtra {V : Type 0} (x : ExtraRow V) (file : Files) (names : ExtraNames) (before now : List ℕ)
    (logs : List (List PortCall)) (states : List TargetState) (counts : List ℕ) : Type 0 where
  pub bytes : List ℕ
  pub report : HasExtraReport x file names bytes logs states counts
  pub written : now ≡ before ++ bytes

-- the report over a rig, where it and its ports tell what they did
abbrev pub IsExtraAnswer : {V : Type 0} → ExtraRow V → Files → ExtraNames → RigView → List ℕ → Type 0
IsExtraAnswer x file names rig text =
    IsTrue rig.tells → IsTrue rig.ports_tell → HasExtraReport x file names text rig.logs rig.states rig.counts

-- THE ROW: it reads the board, the scripts, the file more and the schedule, and plugs the rig; a success writes the report of a run
abbrev pub extra_form : {V : Type 0} → ExtraRow V → ExtraNames → Form
extra_form x names = record {
  reads = IsExtraPlace x names;
  turn = λ file place. IsExtraTurn x file names place;
  skips = IsExtraSkipped;
  refuses = IsExtraRefusal x;
  cause = λ file s. IsExtraCause x file names s;
  plugs = true;
  answer = λ file rig text. IsExtraAnswer x file names rig text;
  leaves = λ rig text. OfSomeFiles AreExtraLike names (λ file called. IsExtraAnswer x file called rig text);
}
