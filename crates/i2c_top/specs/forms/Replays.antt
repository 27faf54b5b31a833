-- `replay BOARD SCHEDULE SCRIPT...`, and `run BOARD SCRIPT...`, which is a replay without a schedule, each with 1 to 8 scripts:
-- their words, what the files say where they end with a status, and the report that they write.
use Rattle.std.specs.Prelude.{⊤, ◌≡◌, ℕ, ◌+◌, ◌<◌, ◌≤◌, ◌⊎◌, nat_le, Bool, true, ◌&&◌, IsTrue, List, ◌++◌, length, drop, map, slice_get, string_bytes, codes, Option, None, Some, is_some}
use Rattle.std.specs.Option.{option_map}
use Rattle.std.specs.Str.{bytes_eq}
use Rattle.i2c_base.specs.declared.port.PortCall.{PortCall}
use Rattle.i2c_base.specs.Board.{BoardView}
use Rattle.i2c_base.specs.Limits.{MOST_CALLERS}
use Rattle.i2c_spec.specs.Targets.{TargetState}
use Rattle.tools.specs.Readers.{word_at}
use Rattle.i2c_top.specs.Boards.{HasAccepted, HasRejected}
use Rattle.i2c_top.specs.Files.{Files, OfSomeFiles}
use Rattle.i2c_top.specs.Form.{Form}
use Rattle.i2c_top.specs.Names.{are_names, AreNamesFrom}
use Rattle.i2c_top.specs.Runs.{cost_of_texts, MOST_COST, HasRun}
use Rattle.i2c_top.specs.Scripts.{script_name, HasBadScript, HasScripts, texts_in, HasOrder, HasBadOrder, words_in}
use Rattle.i2c_top.specs.Traces.{RigView}
use Rattle.i2c_top.specs.declared.names.ReplayNames.{ReplayNames}
use Rattle.i2c_top.specs.declared.status.Status.{Status}
use Rattle.i2c_top.specs.declared.status.Status.TheVariants as status

-- `replay`, and the names of a board, a schedule and at least one script, at most one for each caller
abbrev pub is_replay : List (List ℕ) → Bool
is_replay words =
    nat_le 4 (length words) && (nat_le (length words) (3 + MOST_CALLERS)
    && (bytes_eq (word_at words 0) (codes "replay") && are_names words))

-- `run`, and the names of a board and of the scripts
abbrev pub is_run : List (List ℕ) → Bool
is_run words =
    nat_le 3 (length words) && (nat_le (length words) (2 + MOST_CALLERS)
    && (bytes_eq (word_at words 0) (codes "run") && are_names words))

-- what the files of a call are called; of `run` there is no schedule
pub record Names : Type 0 where
  pub board : List ℕ
  pub schedule : Option (List ℕ)
  pub scripts : List (List ℕ)

abbrev pub names_of : List ℕ → Option (List ℕ) → List (List ℕ) → Names
names_of board schedule scripts = record { board = board; schedule = schedule; scripts = scripts }

-- the names among the words of a replay, and of a run
abbrev pub replay_names : List (List ℕ) → Names
replay_names words = names_of (word_at words 1) (Some (word_at words 2)) (drop 3 words)

abbrev pub run_names : List (List ℕ) → Names
run_names words = names_of (word_at words 1) None (drop 2 words)

-- as many scripts, and a schedule where these have one
pub record AreLike (names others : Names) : Type 0 where
  pub scripts : length names.scripts ≡ length others.scripts
  pub schedule : is_some names.schedule ≡ is_some others.schedule

-- names as the program has them, and as contracts see them
abbrev pub names_told : ReplayNames → Names
names_told names = names_of names.board.now (option_map (λ s. s.now) names.schedule) (map string_bytes names.scripts.now)

-- the place of the first script among the words: after the board and the schedule, where there is one
abbrev pub first_script : Option (List ℕ) → ℕ
first_script None = 2
first_script (Some name) = 3

-- the schedule stands at this place
abbrev pub IsScheduleAt : Option (List ℕ) → ℕ → Type 0
IsScheduleAt None place = ⊥
IsScheduleAt (Some name) place = place ≡ 2

-- a file of the call stands at this place
pub record IsPlaceIn (names : Names) (place : ℕ) : Type 0 where
  pub first : 1 ≤ place
  pub last : place < first_script names.schedule + length names.scripts

-- the schedule's name is the word after the board's, where there is one
abbrev pub IsScheduleWord : List (List ℕ) → Option (List ℕ) → Type 0
IsScheduleWord words None = ⊤
IsScheduleWord words (Some name) = slice_get words 2 ≡ Some name

-- the names stand at their places among the words
pub record ArePlaced (words : List (List ℕ)) (names : Names) : Type 0 where
  pub board : slice_get words 1 ≡ Some names.board
  pub schedule : IsScheduleWord words names.schedule
  pub scripts : AreNamesFrom (first_script names.schedule) words names.scripts
  pub some : 1 ≤ length names.scripts
  pub most : length names.scripts ≤ MOST_CALLERS

-- the files are there, and well formed
pub record HasTexts (file : Files) (names : Names) : Type 0 where
  pub board : HasAccepted file names.board
  pub scripts : HasScripts file board.board names.scripts (length names.scripts)
  pub schedule : HasOrder file names.schedule (length names.scripts)

-- what the scripts cost over a board
abbrev pub cost_in : Files → Names → BoardView → ℕ
cost_in file names b = cost_of_texts b (texts_in file names.scripts)

-- .. and the scripts don't cost too much
pub record HasFiles (file : Files) (names : Names) : Type 0 where
  pub texts : HasTexts file names
  pub cheap : cost_in file names texts.board.board ≤ MOST_COST

-- .. or they do, for so much
pub record HasDearFiles (file : Files) (names : Names) (cost : ℕ) : Type 0 where
  pub texts : HasTexts file names
  pub same : cost ≡ cost_in file names texts.board.board
  pub dear : MOST_COST < cost

-- there is a board, and the scripts before this one are in the grammar
pub record HasScriptsBefore (file : Files) (names : Names) (caller : ℕ) : Type 0 where
  pub known : caller < length names.scripts
  pub board : HasAccepted file names.board
  pub before : HasScripts file board.board names.scripts caller

-- what the files say where the call ends with a status that they decide: success, and each refusal of a file's text
abbrev pub IsReplayCause : Files → Names → Status → Type 0
IsReplayCause file names status.Ok = HasFiles file names
IsReplayCause file names (status.Board why) = HasRejected file names.board why
IsReplayCause file names (status.Script caller line word) =
    (earlier : HasScriptsBefore file names caller) × HasBadScript file earlier.board.board (script_name names.scripts caller) line word
IsReplayCause file names (status.Schedule word) =
    (board : HasAccepted file names.board) × HasScripts file board.board names.scripts (length names.scripts)
    × HasBadOrder file names.schedule (length names.scripts) word
IsReplayCause file names (status.Cost cost) = HasDearFiles file names cost
IsReplayCause file names _ = ⊥

-- a script is read at its place: there is a board, and the scripts before it are in the grammar
pub record IsScriptInTurn (file : Files) (names : Names) (place : ℕ) : Type 0 where
  pub caller : ℕ
  pub at : place ≡ first_script names.schedule + caller
  pub earlier : HasScriptsBefore file names caller

-- the order of refusals: the board is read at place 1; there is a board before the scripts are read, one after the other;
-- all of them are in the grammar before the schedule is read
abbrev pub IsReadInTurn : Files → Names → ℕ → Type 0
IsReadInTurn file names place =
    (place ≡ 1) ⊎ (IsScriptInTurn file names place
    ⊎ (IsScheduleAt names.schedule place × (board : HasAccepted file names.board)
    × HasScripts file board.board names.scripts (length names.scripts)))

-- the file at this other place is read after the one at a place: the schedule is read last
abbrev pub IsReadAfter : Option (List ℕ) → ℕ → ℕ → Type 0
IsReadAfter schedule place other = (IsScheduleAt schedule place → ⊥) × (IsScheduleAt schedule other ⊎ (place < other))

-- with these refusals the call ends before it comes to the files that would be read after the refused one
abbrev pub IsSkipped : Option (List ℕ) → Status → ℕ → Type 0
IsSkipped schedule (status.Board why) other = IsReadAfter schedule 1 other
IsSkipped schedule (status.Script caller line word) other = IsReadAfter schedule (first_script schedule + caller) other
IsSkipped schedule (status.Read place) other = IsReadAfter schedule place other
IsSkipped schedule _ other = ⊥

-- of the refusals of a text, a cost that is told is above the limit, and a word that is told is of a schedule
pub record IsReplayRefusal (names : Names) (s : Status) : Type 0 where
  pub cost : (cost : ℕ) → s ≡ status.Cost cost → MOST_COST < cost
  pub schedule : (word : ℕ) → s ≡ status.Schedule word → IsScheduleAt names.schedule 2

-- the files are there, well formed and within the cost, and these bytes are the report of a run of the scripts over the
-- board, by the schedule where there is one, with the calls on its ports, the devices that it leaves, and what the ports counted
pub record HasReport (file : Files) (names : Names) (bytes : List ℕ) (logs : List (List PortCall))
    (states : List TargetState) (counts : List ℕ) : Type 0 where
  pub files : HasFiles file names
  pub run : HasRun files.texts.board.board (texts_in file names.scripts)
      (words_in file names.schedule (length names.scripts) files.texts.schedule)
      bytes logs states counts

-- the report was written after what stood there
pub record HasReplayed (file : Files) (names : Names) (before now : List ℕ) (logs : List (List PortCall))
    (states : List TargetState) (counts : List ℕ) : Type 0 where
  pub bytes : List ℕ
  pub report : HasReport file names bytes logs states counts
  pub written : now ≡ before ++ bytes

-- the row of a form that reads the board, the scripts and the schedule, where there is one, and plugs the rig; a success writes this
-- answer, which is that of some files whatever a shelf tells
abbrev pub reading_form : Names → (Files → Names → RigView → List ℕ → Type 0) → Form
reading_form names answer = record {
  reads = IsPlaceIn names;
  turn = λ file place. IsReadInTurn file names place;
  skips = IsSkipped names.schedule;
  refuses = IsReplayRefusal names;
  cause = λ file s. IsReplayCause file names s;
  plugs = true;
  answer = λ file rig text. answer file names rig text;
  leaves = λ rig text. OfSomeFiles AreLike names (λ file called. answer file called rig text);
}

-- the report over a rig, where it and its ports tell what they did
abbrev pub IsReplayAnswer : Files → Names → RigView → List ℕ → Type 0
IsReplayAnswer file names rig text = IsTrue rig.tells → IsTrue rig.ports_tell → HasReport file names text rig.logs rig.states rig.counts

-- THE ROW, of both: a success writes the report of a run over the rig
abbrev pub replay_form : Names → Form
replay_form names = reading_form names IsReplayAnswer
