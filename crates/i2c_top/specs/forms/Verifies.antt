-- `verify BOARD JOURNAL SCRIPT...`, with 1 to 8 scripts: its words, what the files say where it ends with a status, and the line that
-- it writes.
use Rattle.std.specs.Prelude.{⊤, ◌≡◌, ℕ, ◌+◌, ◌<◌, ◌≤◌, nat_le, Bool, false, ◌&&◌, List, ◌++◌, length, drop, map, string_bytes, codes, Some}
use Rattle.std.specs.Fmt.{decimal}
use Rattle.std.specs.Str.{bytes_eq}
use Rattle.i2c_base.specs.Board.{BoardView}
use Rattle.i2c_base.specs.Limits.{MOST_CALLERS}
use Rattle.i2c_spec.specs.Plain.{IsPlainBoard}
use Rattle.journal_check.specs.Faults.{IsFaultIn, IsVerified}
use Rattle.journal_check.specs.declared.fault.CheckFault.{CheckFault}
use Rattle.journal_check.specs.declared.fault.CheckFault.TheVariants as verdict
use Rattle.tools.specs.Readers.{word_at}
use Rattle.i2c_top.specs.Boards.{HasAccepted, HasRejected}
use Rattle.i2c_top.specs.Checked.{checked_on}
use Rattle.i2c_top.specs.Files.{Files, OfSomeFiles}
use Rattle.i2c_top.specs.Form.{Form}
use Rattle.i2c_top.specs.Names.{are_names}
use Rattle.i2c_top.specs.Runs.{cost_of_texts, MOST_COST}
use Rattle.i2c_top.specs.Scripts.{script_name, HasBadScript, HasScripts, texts_in}
use Rattle.i2c_top.specs.forms.Replays.{Names, names_of, HasScriptsBefore, IsPlaceIn, IsReadInTurn, IsSkipped}
use Rattle.i2c_top.specs.declared.forms.verify.VerifyWords.{VerifyWords}
use Rattle.i2c_top.specs.declared.status.Status.{Status}
use Rattle.i2c_top.specs.declared.status.Status.TheVariants as status

-- `verify`, and the names of a board, a journal and at least one script, at most one for each caller
abbrev pub is_verify : List (List ℕ) → Bool
is_verify words =
    nat_le 4 (length words) && (nat_le (length words) (3 + MOST_CALLERS)
    && (bytes_eq (word_at words 0) (codes "verify") && are_names words))

-- what the files of a call are called
pub record VerifyNames : Type 0 where
  pub board : List ℕ
  pub journal : List ℕ
  pub scripts : List (List ℕ)

-- as many scripts
abbrev pub AreVerifyLike : VerifyNames → VerifyNames → Type 0
AreVerifyLike names others = length names.scripts ≡ length others.scripts

abbrev pub verify_names : List (List ℕ) → VerifyNames
verify_names words = record { board = word_at words 1; journal = word_at words 2; scripts = drop 3 words }

abbrev pub verify_told : VerifyWords → VerifyNames
verify_told words = record { board = words.board.now; journal = words.journal.now; scripts = map string_bytes words.scripts.now }

-- the files stand and are read as those of a replay, the journal where that has its schedule: after the board among the words, and
-- read last
abbrev pub as_replayed : VerifyNames → Names
as_replayed names = names_of names.board (Some names.journal) names.scripts

-- there are a board, scripts that are in the grammar, and a journal's file
pub record HasJournal (file : Files) (names : VerifyNames) : Type 0 where
  pub board : HasAccepted file names.board
  pub scripts : HasScripts file board.board names.scripts (length names.scripts)
  pub text : List ℕ
  pub there : file names.journal ≡ Some text

abbrev pub verify_cost : Files → VerifyNames → BoardView → ℕ
verify_cost file names b = cost_of_texts b (texts_in file names.scripts)

-- .. and the scripts don't cost too much; the numbers of the board are in their ranges, as those of each board that is read
pub record HasCheapJournal (file : Files) (names : VerifyNames) : Type 0 where
  pub files : HasJournal file names
  pub plain : IsPlainBoard files.board.board
  pub cheap : verify_cost file names files.board.board ≤ MOST_COST

-- .. or they do, for so much
pub record HasDearJournal (file : Files) (names : VerifyNames) (cost : ℕ) : Type 0 where
  pub files : HasJournal file names
  pub same : cost ≡ verify_cost file names files.board.board
  pub dear : MOST_COST < cost

-- the journal's file is the report of a legal and complete journal of these scripts over this board, which has so many entries
pub record HasVerdict (file : Files) (names : VerifyNames) (entries : ℕ) : Type 0 where
  pub has : HasCheapJournal file names
  pub verified : IsVerified (checked_on has.files.board.board (texts_in file names.scripts)) has.files.text entries

-- .. or this is the first thing that is wrong with it
pub record HasFault (file : Files) (names : VerifyNames) (fault : CheckFault) : Type 0 where
  pub has : HasCheapJournal file names
  pub fault_is : IsFaultIn (checked_on has.files.board.board (texts_in file names.scripts)) has.files.text fault

-- what the files say where the call ends with a status that they decide
abbrev pub IsVerifyCause : Files → VerifyNames → Status → Type 0
IsVerifyCause file names status.Ok = (entries : ℕ) × HasVerdict file names entries
IsVerifyCause file names (status.Board why) = HasRejected file names.board why
IsVerifyCause file names (status.Script caller line word) =
    (earlier : HasScriptsBefore file (as_replayed names) caller) × HasBadScript file earlier.board.board (script_name names.scripts caller) line word
IsVerifyCause file names (status.Cost cost) = HasDearJournal file names cost
IsVerifyCause file names (status.Verify fault) = HasFault file names fault
IsVerifyCause file names _ = ⊥

-- being out of memory is told by a status of its own
abbrev pub IsVerdict : CheckFault → Type 0
IsVerdict verdict.Memory = ⊥
IsVerdict _ = ⊤

abbrev pub fault_status : CheckFault → Status
fault_status verdict.Memory = status.Memory
fault_status fault = status.Verify fault

-- the refusals of a text
abbrev pub IsVerifyRefusal : Status → Type 0
IsVerifyRefusal (status.Board why) = ⊤
IsVerifyRefusal (status.Script caller line word) = ⊤
IsVerifyRefusal (status.Cost cost) = MOST_COST < cost
IsVerifyRefusal (status.Verify fault) = IsVerdict fault
IsVerifyRefusal _ = ⊥

-- the line of a journal that is verified
abbrev pub verified_text : ℕ → List ℕ
verified_text entries = codes "verified " ++ (decimal entries ++ codes " entries\n")

-- the files have a journal that is verified, and this is its line
pub record HasVerdictLine (file : Files) (names : VerifyNames) (text : List ℕ) : Type 0 where
  pub entries : ℕ
  pub verdict : HasVerdict file names entries
  pub line : text ≡ verified_text entries

-- that line was written after what stood there
pub record HasVerified (file : Files) (names : VerifyNames) (before now : List ℕ) : Type 0 where
  pub text : List ℕ
  pub verdict : HasVerdictLine file names text
  pub written : now ≡ before ++ text

-- THE ROW: it reads the board, the scripts and the journal, refuses what a replay does of the first two and the journal, and plugs no
-- rig
abbrev pub verify_form : VerifyNames → Form
verify_form names = record {
  reads = IsPlaceIn (as_replayed names);
  turn = λ file place. IsReadInTurn file (as_replayed names) place;
  skips = IsSkipped (Some names.journal);
  refuses = IsVerifyRefusal;
  cause = λ file s. IsVerifyCause file names s;
  plugs = false;
  answer = λ file rig text. HasVerdictLine file names text;
  leaves = λ rig text. OfSomeFiles AreVerifyLike names (λ file called. HasVerdictLine file called text);
}
