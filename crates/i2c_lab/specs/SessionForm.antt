-- `session BOARD`: the lines of an input over a board, each answered before the next one is read.
use Rattle.std.specs.Prelude.{⊤, ◌≡◌, ◌≢◌, ℕ, ◌==◌, Bool, ◌&&◌, ◌⊎◌, IsTrue, List, [], ◌∷◌, ◌++◌, Option, Result, Err, IfSome, OnOk, length, codes}
use Rattle.std.specs.Str.{bytes_eq}
use Rattle.i2c_base.specs.Board.{BoardView}
use Rattle.ports.specs.Causes.{Rose}
use Rattle.tools.specs.Readers.{word_at}
use Rattle.i2c_session.specs.Sessions.{Exchange, IsAnswered, IsTranscript, SessionView, lines_of, opening, spoken}
use Rattle.i2c_top.specs.Boards.{IsSpelled}
use Rattle.i2c_top.specs.Endings.{HasEndedAs}
use Rattle.i2c_top.specs.Names.{is_name}
use Rattle.i2c_top.specs.Readings.{IsAcceptedIn}
use Rattle.i2c_top.specs.Status.{refusal_text}
use Rattle.i2c_top.specs.Traces.{KeepsBut, Outside, OutputView}
use Rattle.i2c_top.specs.Written.{HasFront}
use Rattle.i2c_top.specs.declared.status.Status.{Status}
use Rattle.i2c_top.specs.declared.status.Status.TheVariants as status
use Rattle.i2c_top.specs.forms.Checks.{check_form}

-- `session`, and the name of a board
abbrev pub is_session : List (List ℕ) → Bool
is_session words = (length words == 2) && (bytes_eq (word_at words 0) (codes "session") && is_name (word_at words 1))

-- what is seen of an input: the lines to come, where its bytes are known, and how many faults it counted
pub record InputView : Type 0 where
  pub lines : Option (List (List ℕ))
  pub faults : ℕ

-- the line of an input that failed
abbrev pub input_line : List ℕ
input_line = refusal_text status.Input []

-- lines over a board were taken and answered, and these are left, of those that are known
pub record HasAnswered (b : BoardView) (lines : Option (List (List ℕ))) (rest : List (List ℕ)) (told : List Exchange) (end : SessionView) : Type 0 where
  pub lines_are : IfSome lines (λ all. all ≡ lines_of told ++ rest)
  pub transcript : IsTranscript told (opening b) end

-- what comes behind the answers so far: that to the next line, or the line of an input that failed
pub record IsAnswerTo (s : SessionView) (line due : List ℕ) : Type 0 where
  pub next : SessionView
  pub answered : IsAnswered s line due next

abbrev pub IsDue : SessionView → List (List ℕ) → List ℕ → Type 0
IsDue s [] due = due ≡ input_line
IsDue s (l ∷ ls) due = (due ≡ input_line) ⊎ IsAnswerTo s l due

-- a front of it was written, where the output failed
pub record IsCutBehind (s : SessionView) (rest : List (List ℕ)) (before text now : List ℕ) : Type 0 where
  pub due : List ℕ
  pub is_due : IsDue s rest due
  pub front : HasFront before (text ++ due) now

-- what stands behind the answers so far, by the status of the end: nothing where the input ended or there was no memory, the line of an
-- input that failed, and a front of what was due where the output did
abbrev pub IsSaid : Status → SessionView → List (List ℕ) → (before text now : List ℕ) → Type 0
IsSaid status.Ok s rest before text now = now ≡ before ++ text
IsSaid status.Input s rest before text now = now ≡ before ++ (text ++ input_line)
IsSaid status.Memory s rest before text now = now ≡ before ++ text
IsSaid status.Write s rest before text now = IsCutBehind s rest before text now
IsSaid _ s rest before text now = ⊥

-- lines were taken, and each answered whole before the next; none is left where the input ended
pub record HasSaid (b : BoardView) (lines : Option (List (List ℕ))) (sink sink_now : OutputView) (result : Status) : Type 0 where
  pub told : List Exchange
  pub rest : List (List ℕ)
  pub end : SessionView
  pub answered : HasAnswered b lines rest told end
  pub over : result ≡ status.Ok → rest ≡ []
  pub said : IsTrue sink.tells → IsSaid result end rest sink.bytes (spoken told) sink_now.bytes

-- .. before the line of an input that failed, by what the lines came to
abbrev pub IsLeftAt : Result ⊤ Status → SessionView → List (List ℕ) → (before text now : List ℕ) → Type 0
IsLeftAt (Err status.Write) s rest before text now = IsCutBehind s rest before text now
IsLeftAt _ s rest before text now = now ≡ before ++ text

pub record HasStopped (b : BoardView) (lines : Option (List (List ℕ))) (tells : Bool) (before now : List ℕ) (result : Result ⊤ Status) : Type 0 where
  pub told : List Exchange
  pub rest : List (List ℕ)
  pub end : SessionView
  pub answered : HasAnswered b lines rest told end
  pub over : OnOk result (rest ≡ [])
  pub left : IsTrue tells → IsLeftAt result end rest before (spoken told) now

-- why the lines came to no end
abbrev pub IsStopCause : (sink sink_now input input_now : ℕ) → Status → Type 0
IsStopCause sink sink_now input input_now status.Input = Rose input input_now
IsStopCause sink sink_now input input_now status.Memory = ⊤
IsStopCause sink sink_now input input_now status.Write = Rose sink sink_now
IsStopCause sink sink_now input input_now _ = ⊥

-- why a session ended: the input did, it or the output failed and counted that, or there was no memory
abbrev pub IsCausedBy : (sink sink_now : OutputView) → (input input_now : InputView) → Status → Type 0
IsCausedBy sink sink_now input input_now status.Ok = ⊤
IsCausedBy sink sink_now input input_now s = IsStopCause sink.faults sink_now.faults input.faults input_now.faults s

-- a session was held over the board of the file, which its text spells: each line that was read is answered whole before the next
pub record HasHeld (name : List ℕ) (old new : Outside) (input input_now : InputView) (result : Status) : Type 0 where
  pub board : BoardView
  pub spelled : IsSpelled board
  pub read : IsTrue old.shelf.tells → IsAcceptedIn old.shelf.file name board
  pub kept : KeepsBut (λ place. place ≡ 1) old.shelf new.shelf
  pub rig : new.rig ≡ old.rig
  pub caused : IsCausedBy old.sink new.sink input input_now result
  pub said : HasSaid board input.lines old.sink new.sink result

-- where the board's file isn't read, or its text is refused, it ends as `check` does, and no line is taken
pub record HasEndedUnheld (name : List ℕ) (old new : Outside) (input input_now : InputView) (result : Status) : Type 0 where
  pub as_check : HasEndedAs (check_form name) old new result
  pub refused : result ≢ status.Ok
  pub untaken : input_now ≡ input

abbrev pub HasEndedSession : List ℕ → (old new : Outside) → (input input_now : InputView) → Status → Type 0
HasEndedSession name old new input input_now result =
    HasEndedUnheld name old new input input_now result ⊎ HasHeld name old new input input_now result
