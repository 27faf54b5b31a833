-- How a call of a form ends: what it came to before it wrote, the text that was due, and what came of its writing.
use Rattle.std.specs.Prelude.{⊤, ◌≡◌, ◌≢◌, ℕ, ◌⊎◌, IsTrue, List, [], ◌++◌}
use Rattle.ports.specs.Causes.{Rose}
use Rattle.tools.specs.Readers.{word_at}
use Rattle.i2c_top.specs.Form.{Form, TellsItsFiles, IsStatusOf, IsCalm, KeepsShelf, KeepsUnreached, IsTold, IsTraced}
use Rattle.i2c_top.specs.Status.{Class, Done, Misused, Refused, Unread, NoRig, Silent, class_of, refusal_text}
use Rattle.i2c_top.specs.Traces.{ShelfView, OutputView, RigView, Outside, KeepsBut, IsUnread}
use Rattle.i2c_top.specs.Written.{HasFront}
use Rattle.i2c_top.specs.declared.status.Status.{Status}
use Rattle.i2c_top.specs.declared.status.Status.TheVariants as status

-- what the counts show of a status
abbrev pub shown_of : Form → ShelfView → ShelfView → RigView → RigView → Class → Type 0
shown_of form shelf shelf_now rig rig_now Done = ⊤
shown_of form shelf shelf_now rig rig_now Misused = ⊥
shown_of form shelf shelf_now rig rig_now Refused = ⊤
shown_of form shelf shelf_now rig rig_now (Unread place) = IsUnread form.reads shelf.faults shelf_now.faults place
shown_of form shelf shelf_now rig rig_now NoRig = Rose rig.faults rig_now.faults
shown_of form shelf shelf_now rig rig_now Silent = ⊤

abbrev pub IsShown : Form → ShelfView → ShelfView → RigView → RigView → Status → Type 0
IsShown form shelf shelf_now rig rig_now s = shown_of form shelf shelf_now rig rig_now (class_of s)

-- a call came to this status before it wrote: its cause held in the call, no file was read out of turn, and the rig was
-- left as it says
pub record CameTo (form : Form) (shelf shelf_now : ShelfView) (rig rig_now : RigView) (s : Status) : Type 0 where
  pub told : TellsItsFiles form shelf → IsTold form shelf.file s
  pub shown : IsShown form shelf shelf_now rig rig_now s
  pub unwritten : s ≢ status.Write
  pub unreached : KeepsUnreached form shelf.faults shelf_now.faults s
  pub traced : IsTraced form rig rig_now s

-- the same of the status that a call ends with, which is one of the form's: the output may have failed, and counted it
pub record IsCaused (form : Form) (old new : Outside) (s : Status) : Type 0 where
  pub own : IsStatusOf form s
  pub told : TellsItsFiles form old.shelf → IsTold form old.shelf.file s
  pub shown : IsShown form old.shelf new.shelf old.rig new.rig s
  pub write : s ≡ status.Write → Rose old.sink.faults new.sink.faults
  pub unreached : KeepsUnreached form old.shelf.faults new.shelf.faults s
  pub traced : IsTraced form old.rig new.rig s

-- a text is what was asked for: by the files, where the shelf tells them, and by what the rig holds
pub record IsAnswer (form : Form) (shelf : ShelfView) (rig : RigView) (text : List ℕ) : Type 0 where
  pub by_files : IsTrue shelf.tells → form.answer shelf.file rig text
  pub by_rig : form.leaves rig text

-- a success that was come to, and the text that it is to write
pub record CameToSuccess (form : Form) (shelf shelf_now : ShelfView) (rig rig_now : RigView) (text : List ℕ) : Type 0 where
  pub came : CameTo form shelf shelf_now rig rig_now status.Ok
  pub answer : IsAnswer form shelf rig_now text
  pub kept : KeepsShelf form shelf shelf_now

-- a refusal that was come to
pub record CameToRefusal (form : Form) (shelf shelf_now : ShelfView) (rig rig_now : RigView) (s : Status) : Type 0 where
  pub came : CameTo form shelf shelf_now rig rig_now s
  pub refusal : s ≢ status.Ok
  pub own : IsStatusOf form s
  pub kept : KeepsShelf form shelf shelf_now

-- the name in a refusal's line: that of the file that was not read, which is the word at its place
abbrev pub name_by_class : List (List ℕ) → Class → List ℕ
name_by_class words (Unread place) = word_at words place
name_by_class words _ = []

abbrev pub name_in : List (List ℕ) → Status → List ℕ
name_in words s = name_by_class words (class_of s)

-- the text that is due for a status: what was asked for, or the line of the refusal
abbrev pub due_of : Form → ShelfView → RigView → Status → List ℕ → Class → Type 0
due_of form shelf rig s text Done = IsAnswer form shelf rig text
due_of form shelf rig s text Silent = ⊥
due_of form shelf rig s text _ = text ≡ refusal_text s (name_in shelf.words s)

abbrev pub IsTextDue : Form → ShelfView → RigView → Status → List ℕ → Type 0
IsTextDue form shelf rig s text = due_of form shelf rig s text (class_of s)

-- a text was written whole, and the call answers the status that it was due for
pub record IsWrittenWhole (sink sink_now : OutputView) (s : Status) (text : List ℕ) (result : Status) : Type 0 where
  pub same : result ≡ s
  pub whole : IsTrue sink.tells → sink_now.bytes ≡ sink.bytes ++ text

-- a front of it was written, and the count shows it
pub record IsCutOff (sink sink_now : OutputView) (text : List ℕ) (result : Status) : Type 0 where
  pub failed : result ≡ status.Write
  pub rose : Rose sink.faults sink_now.faults
  pub front : IsTrue sink.tells → HasFront sink.bytes text sink_now.bytes

abbrev pub IsWritten : OutputView → OutputView → Status → List ℕ → Status → Type 0
IsWritten sink sink_now s text result = IsWrittenWhole sink sink_now s text result ⊎ IsCutOff sink sink_now text result

-- there was no memory, and nothing was written
pub record IsStarved (sink sink_now : OutputView) (result : Status) : Type 0 where
  pub starved : result ≡ status.Memory
  pub kept : IsTrue sink.tells → sink_now.bytes ≡ sink.bytes

-- what is written for a refusal: its line, where `name` is the name of the file that was not read; nothing where there is no
-- memory for it
abbrev pub IsRefusalWritten : OutputView → OutputView → Status → List ℕ → Status → Type 0
IsRefusalWritten sink sink_now s name result =
    IsStarved sink sink_now result ⊎ ((s ≢ status.Memory) × IsWritten sink sink_now s (refusal_text s name) result)

-- the output failed: a text was due for a status that the call came to, and a front of it was written
pub record IsCutShort (form : Form) (old new : Outside) : Type 0 where
  pub to : Status
  pub text : List ℕ
  pub came : CameTo form old.shelf new.shelf old.rig new.rig to
  pub due : IsTextDue form old.shelf new.rig to text
  pub front : IsTrue old.sink.tells → HasFront old.sink.bytes text new.sink.bytes

-- what stands on the output: the line of a refusal, nothing without memory, and where it failed a front of the text due
pub record HasWritten (form : Form) (old new : Outside) (result : Status) : Type 0 where
  pub line : IsTrue old.sink.tells → result ≢ status.Ok → result ≢ status.Write
      → new.sink.bytes ≡ old.sink.bytes ++ refusal_text result (name_in old.shelf.words result)
  pub kept : IsTrue old.sink.tells → result ≡ status.Memory → new.sink.bytes ≡ old.sink.bytes
  pub cut : result ≡ status.Write → IsCutShort form old new

-- a success that was written: what was asked for, whole
pub record HasSaid (form : Form) (old new : Outside) : Type 0 where
  pub text : List ℕ
  pub answer : IsAnswer form old.shelf new.rig text
  pub written : IsTrue old.sink.tells → new.sink.bytes ≡ old.sink.bytes ++ text

-- how a call of a form ends. Its status has its cause, in the order of refusals. Where no count rose of what the form uses, it
-- is the status that the files are a cause of, or there was no memory. A success says what was asked for, and what else was
-- written is told. The shelf keeps its words and files, and its counts but for those of the files that are read
pub record HasEndedAs (form : Form) (old new : Outside) (result : Status) : Type 0 where
  pub cause : IsCaused form old new result
  pub complete : TellsItsFiles form old.shelf → (s : Status) → form.cause old.shelf.file s → IsCalm form old new
      → (result ≡ s) ⊎ (result ≡ status.Memory)
  pub said : result ≡ status.Ok → HasSaid form old new
  pub written : HasWritten form old new result
  pub kept : KeepsShelf form old.shelf new.shelf

-- words in no form are turned down by this line on usage, or a front of it where the output failed; nothing is read or plugged
pub record IsTurnedDown (usage : List ℕ) (old new : Outside) (result : Status) : Type 0 where
  pub written : IsWritten old.sink new.sink status.Usage usage result
  pub shelf : KeepsBut (λ place. ⊥) old.shelf new.shelf
  pub rig : new.rig ≡ old.rig
