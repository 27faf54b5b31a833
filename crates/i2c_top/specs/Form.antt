-- A form of the words, with its names filled in, as one row of facts. How a call ends is told of any form by its row.
use Rattle.std.specs.Prelude.{⊤, ◌≡◌, ℕ, Bool, true, false, IsTrue, List}
use Rattle.ports.specs.Causes.{Rose}
use Rattle.i2c_top.specs.Files.{Files}
use Rattle.i2c_top.specs.Status.{Class, Done, Misused, Refused, Unread, NoRig, Silent, class_of}
use Rattle.i2c_top.specs.Traces.{ShelfView, KeepsBut, Outside, RigView, IsUsed, IsTried, IsRigLeft, IsUntouched}
use Rattle.i2c_top.specs.declared.status.Status.{Status}
use Rattle.i2c_top.specs.declared.status.Status.TheVariants as status

-- `reads`: a file is read for it whose name is the word at this place. `turn`: it is this file's turn, since what is read
-- before it is not refused. `skips`: with a refusal the call ends before it comes to the file at this place. `refuses`: it may
-- end with this refusal of a text. `cause`: what the files say where it ends with a status that they decide, which is a success
-- or the refusal of a text. `plugs`: it plugs the rig. `answer`: the text that a success writes, by the files and the rig.
-- `leaves`: what is so of that text and of the rig whatever a shelf tells.
pub record Form : Type 1 where
  pub reads : ℕ → Type 0
  pub turn : Files → ℕ → Type 0
  pub skips : Status → ℕ → Type 0
  pub refuses : Status → Type 0
  pub cause : Files → Status → Type 0
  pub plugs : Bool
  pub answer : Files → RigView → List ℕ → Type 0
  pub leaves : RigView → List ℕ → Type 0

-- what every row keeps: files are a cause of one status
abbrev pub DecidesOnce : Form → Type 0
DecidesOnce form = (file : Files) (s r : Status) → form.cause file s → form.cause file r → r ≡ s

-- the statuses that it may end with: of the refusals its own, of the files not read its own, and no plug that failed where
-- it plugs no rig
abbrev pub own_of : Form → Status → Class → Type 0
own_of form s Done = ⊤
own_of form s Misused = ⊥
own_of form s Refused = form.refuses s
own_of form s (Unread place) = form.reads place
own_of form s NoRig = IsTrue form.plugs
own_of form s Silent = ⊤

abbrev pub IsStatusOf : Form → Status → Type 0
IsStatusOf form s = own_of form s (class_of s)

-- the rig is plugged where it plugs one, and the files let it succeed
abbrev pub IsPlugging : Form → Files → Type 0
IsPlugging form file = IsTrue form.plugs × form.cause file status.Ok

-- what the files say where the call ends with any status: each comes only where no earlier refusal does
abbrev pub told_of : Form → Files → Status → Class → Type 0
told_of form file s Done = form.cause file s
told_of form file s Refused = form.cause file s
told_of form file s (Unread place) = form.turn file place
told_of form file s NoRig = IsPlugging form file
told_of form file s Misused = ⊥
told_of form file s Silent = ⊤

abbrev pub IsTold : Form → Files → Status → Type 0
IsTold form file s = told_of form file s (class_of s)

-- the shelf tells the files that are read for it
abbrev pub TellsItsFiles : Form → ShelfView → Type 0
TellsItsFiles form shelf = (place : ℕ) → form.reads place → IsTrue shelf.tells

-- no count rose of what it uses: its files, the output, and the rig where it plugs one
pub record IsCalm (form : Form) (old new : Outside) : Type 0 where
  pub shelf : (place : ℕ) → form.reads place → Rose (old.shelf.faults place) (new.shelf.faults place) → ⊥
  pub sink : Rose old.sink.faults new.sink.faults → ⊥
  pub rig : IsTrue form.plugs → Rose old.rig.faults new.rig.faults → ⊥

-- the shelf is kept, but for the counts of its files
abbrev pub KeepsShelf : Form → ShelfView → ShelfView → Type 0
KeepsShelf form old new = KeepsBut form.reads old new

-- the files that a refused call did not come to were not read, so that their counts are as they were
abbrev pub KeepsSkipped : Form → (ℕ → ℕ) → (ℕ → ℕ) → Status → Type 0
KeepsSkipped form reads reads_now s = (place : ℕ) → form.skips s place → reads_now place ≡ reads place

abbrev pub unreached_of : Form → (ℕ → ℕ) → (ℕ → ℕ) → Status → Class → Type 0
unreached_of form reads reads_now s Refused = KeepsSkipped form reads reads_now s
unreached_of form reads reads_now s (Unread place) = KeepsSkipped form reads reads_now s
unreached_of form reads reads_now s _ = ⊤

abbrev pub KeepsUnreached : Form → (ℕ → ℕ) → (ℕ → ℕ) → Status → Type 0
KeepsUnreached form reads reads_now s = unreached_of form reads reads_now s (class_of s)

-- what a success does to the rig, by whether it is plugged
abbrev pub rig_after : Bool → RigView → RigView → Type 0
rig_after true old new = IsUsed old new
rig_after false old new = IsUntouched old new

-- what the call does to the rig, by its status
abbrev pub traced_of : Form → RigView → RigView → Class → Type 0
traced_of form old new Done = rig_after form.plugs old new
traced_of form old new NoRig = IsTried old new
traced_of form old new Silent = IsRigLeft old new
traced_of form old new Misused = ⊥
traced_of form old new Refused = IsUntouched old new
traced_of form old new (Unread place) = IsUntouched old new

abbrev pub IsTraced : Form → RigView → RigView → Status → Type 0
IsTraced form old new s = traced_of form old new (class_of s)
