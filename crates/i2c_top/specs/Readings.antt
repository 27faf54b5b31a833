-- One file of a call that is read: what came of it.
use Rattle.std.specs.Prelude.{⊤, All, Option, None, Some, ◌≡◌, ℕ, ◌+◌, ◌<◌, ◌⊎◌, Bool, IsTrue, List, length, take}
use Rattle.i2c_base.specs.Board.{BoardView}
use Rattle.ports.specs.Causes.{Rose}
use Rattle.i2c_top.specs.Boards.{HasAccepted, HasRejected}
use Rattle.i2c_top.specs.Files.{Files, OfSomeFiles}
use Rattle.caller_core.specs.View.{CallerView}
use Rattle.i2c_top.specs.Scripts.{script_name, IsInGrammar, HasScript, HasBadScript, HasScripts, HasSchedule, HasBadSchedule, HasOrder, words_in, texts_in}
use Rattle.i2c_top.specs.Traces.{IsUnread}
use Rattle.i2c_top.specs.forms.Replays.{Names, AreLike, IsPlaceIn, IsScheduleAt, IsReadInTurn, IsReplayCause}
use Rattle.i2c_top.specs.forms.Extras.{ExtraNames, ExtraRow, HasExtra, AreExtraLike, text_at}
use Rattle.i2c_top.specs.forms.Verifies.{VerifyNames, AreVerifyLike}
use Rattle.i2c_top.specs.Runs.{AreOpened, texts_of, MOST_COST}
use Rattle.i2c_top.specs.declared.status.BoardRefusal.{BoardRefusal}
use Rattle.i2c_top.specs.declared.status.Status.{Status}
use Rattle.i2c_top.specs.declared.status.Status.TheVariants as status

-- the accepted board is that of a file
pub record IsAcceptedIn (file : Files) (name : List ℕ) (board : BoardView) : Type 0 where
  pub has : HasAccepted file name
  pub same : board ≡ has.board

-- a file that is told spells no accepted board, for this
abbrev pub IsRejectedIn : Bool → Files → List ℕ → BoardRefusal → Type 0
IsRejectedIn tells file name why = IsTrue tells → HasRejected file name why

-- the text is that of a file, and in the grammar, where it is read over a board
pub record IsScriptIn (file : Files) (board : BoardView) (name text : List ℕ) : Type 0 where
  pub has : HasScript file board name
  pub same : text ≡ has.text

-- the callers are those that the words of a file name
pub record IsScheduleIn (file : Files) (name : List ℕ) (callers : ℕ) (words : List ℕ) : Type 0 where
  pub has : HasSchedule file name callers
  pub same : words ≡ has.words

-- the first scripts are opened over a board, and in the grammar; where the files are told they are there, with these texts
pub record AreScriptsIn (tells : Bool) (file : Files) (names : List (List ℕ)) (board : BoardView) (scripts : List CallerView) : Type 0 where
  pub opened : AreOpened board scripts
  pub grammar : All (λ s. IsInGrammar board s.script.text) scripts
  pub read : IsTrue tells → HasScripts file board names (length scripts)
  pub same : IsTrue tells → texts_of scripts ≡ texts_in file (take (length scripts) names)

-- .. of a schedule, where there is one
pub record IsOrderIn (file : Files) (schedule : Option (List ℕ)) (callers : ℕ) (words : Option (List ℕ)) : Type 0 where
  pub has : HasOrder file schedule callers
  pub same : words ≡ words_in file schedule callers has

-- they are fewer than so many
abbrev pub AreNamed : ℕ → Option (List ℕ) → Type 0
AreNamed callers None = ⊤
AreNamed callers (Some words) = All (λ c. c < callers) words

-- the files are there, and this is the board, the scripts' texts and the schedule's callers
pub record HasRead (file : Files) (names : Names) (board : BoardView) (texts : List (List ℕ)) (words : Option (List ℕ)) : Type 0 where
  pub board_in : IsAcceptedIn file names.board board
  pub scripts : HasScripts file board names.scripts (length names.scripts)
  pub texts_are : texts ≡ texts_in file names.scripts
  pub order_in : IsOrderIn file names.schedule (length names.scripts) words

-- .. of some files, whatever a shelf tells
abbrev pub HasReadSome : Names → BoardView → List (List ℕ) → Option (List ℕ) → Type 0
HasReadSome names board texts words = OfSomeFiles AreLike names (λ file called. HasRead file called board texts words)

-- .. of a journal, with the bytes of its file
pub record HasReadJournal (file : Files) (names : VerifyNames) (board : BoardView) (texts : List (List ℕ)) (text : List ℕ) : Type 0 where
  pub board_in : IsAcceptedIn file names.board board
  pub scripts : HasScripts file board names.scripts (length names.scripts)
  pub texts_are : texts ≡ texts_in file names.scripts
  pub there : file names.journal ≡ Some text

-- .. of some files, whatever a shelf tells
abbrev pub HasReadSomeJournal : VerifyNames → BoardView → List (List ℕ) → List ℕ → Type 0
HasReadSomeJournal names board texts text = OfSomeFiles AreVerifyLike names (λ file called. HasReadJournal file called board texts text)

-- what one file more spells over a board is that of a file
pub record IsExtraIn {V : Type 0} (x : ExtraRow V) (file : Files) (board : BoardView) (name : List ℕ) (v : V) : Type 0 where
  pub has : HasExtra x file board name
  pub same : v ≡ has.value

-- .. beside it: the board, the scripts' texts and the schedule's callers
pub record HasReadExtra {V : Type 0} (x : ExtraRow V) (file : Files) (names : ExtraNames) (board : BoardView) (v : V) (texts : List (List ℕ))
    (words : List ℕ) : Type 0 where
  pub board_in : IsAcceptedIn file names.board board
  pub scripts : HasScripts file board names.scripts (length names.scripts)
  pub texts_are : texts ≡ texts_in file names.scripts
  pub extra_in : IsExtraIn x file board names.extra v
  pub words_in : IsScheduleIn file names.schedule (length names.scripts) words

-- .. of some files, whatever a shelf tells
abbrev pub HasReadSomeExtra : {V : Type 0} → ExtraRow V → ExtraNames → BoardView → V → List (List ℕ) → List ℕ → Type 0
HasReadSomeExtra x names board v texts words =
    OfSomeFiles AreExtraLike names (λ file called. HasReadExtra x file called board v texts words)

-- the file at this place was not read, or there was no memory, or what was read was bad
abbrev pub IsRefusedAt : ℕ → (Status → Type 0) → ℕ → ℕ → Status → Type 0
IsRefusedAt place bad reads reads_now s = ((s ≡ status.Read place) × Rose reads reads_now) ⊎ ((s ≡ status.Memory) ⊎ bad s)

-- a text that is refused
pub record IsBadBoard (of : BoardRefusal → Type 0) (s : Status) : Type 0 where
  pub why : BoardRefusal
  pub same : s ≡ status.Board why
  pub is_bad : of why

pub record IsBadScript (caller : ℕ) (why : ℕ → ℕ → Type 0) (s : Status) : Type 0 where
  pub line : ℕ
  pub word : ℕ
  pub same : s ≡ status.Script caller line word
  pub is_bad : why line word

pub record IsBadSchedule (why : ℕ → Type 0) (s : Status) : Type 0 where
  pub word : ℕ
  pub same : s ≡ status.Schedule word
  pub is_bad : why word

pub record IsBadExtra {V : Type 0} (x : ExtraRow V) (tells : Bool) (file : Files) (board : BoardView) (name : List ℕ) (s : Status) : Type 0 where
  pub text : List ℕ
  pub there : IsTrue tells → text_at x file name ≡ Some text
  pub fails : x.fails board text s

-- the schedule was refused, where there is one
abbrev pub IsRefusedOrder : Bool → Files → Option (List ℕ) → ℕ → (ℕ → ℕ) → (ℕ → ℕ) → Status → Type 0
IsRefusedOrder tells file None callers reads reads_now s = ⊥
IsRefusedOrder tells file (Some name) callers reads reads_now s =
    IsRefusedAt 2 (IsBadSchedule (λ word. IsTrue tells → HasBadSchedule file name callers word)) (reads 2) (reads_now 2) s

-- a script was refused over a board, of those whose files stand from this place on: those before it are in the grammar, and
-- what is read behind it was not read
pub record IsRefusedScript (first : ℕ) (tells : Bool) (file : Files) (board : BoardView) (names : List (List ℕ))
    (reads reads_now : ℕ → ℕ) (s : Status) : Type 0 where
  pub caller : ℕ
  pub known : caller < length names
  pub before : IsTrue tells → HasScripts file board names caller
  pub kept : (place : ℕ) → first + caller < place → reads_now place ≡ reads place
  pub refused : IsRefusedAt (first + caller)
      (IsBadScript caller (λ line word. IsTrue tells → HasBadScript file board (script_name names caller) line word))
      (reads (first + caller)) (reads_now (first + caller)) s

-- the scripts cost so much, which is too much
pub record IsTooDear (cost : ℕ) (s : Status) : Type 0 where
  pub same : s ≡ status.Cost cost
  pub dear : MOST_COST < cost

-- a refusal of a file's text, by what the files say where they are told
abbrev pub IsTextRefusal : Bool → Files → Names → Status → Type 0
IsTextRefusal tells file names (status.Board why) = IsTrue tells → IsReplayCause file names (status.Board why)
IsTextRefusal tells file names (status.Script caller line word) = IsTrue tells → IsReplayCause file names (status.Script caller line word)
IsTextRefusal tells file names (status.Schedule word) =
    IsScheduleAt names.schedule 2 × (IsTrue tells → IsReplayCause file names (status.Schedule word))
IsTextRefusal tells file names (status.Cost cost) = (MOST_COST < cost) × (IsTrue tells → IsReplayCause file names (status.Cost cost))
IsTextRefusal tells file names _ = ⊥

-- a refusal of the files: of a text, or by a count
abbrev pub IsFileRefusal : Bool → Files → Names → (ℕ → ℕ) → (ℕ → ℕ) → Status → Type 0
IsFileRefusal tells file names reads reads_now (status.Read place) =
    IsUnread (IsPlaceIn names) reads reads_now place × (IsTrue tells → IsReadInTurn file names place)
IsFileRefusal tells file names reads reads_now status.Memory = ⊤
IsFileRefusal tells file names reads reads_now s = IsTextRefusal tells file names s
