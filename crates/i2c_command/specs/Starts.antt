-- What the program does with its words, over files and an output of which it is told nothing but the counts of their faults.
use Rattle.std.specs.Prelude.{◌≡◌, ℕ, ◌<◌, List, Option, Some, None}
use Rattle.i2c_top.specs.forms.{request_in, HasEnded}
use Rattle.i2c_top.specs.Traces.{ShelfView, OutputView, RigView}
use Rattle.i2c_top.specs.declared.status.Status.{Status}
use Rattle.i2c_top.specs.declared.status.Status.TheVariants as status

-- a call of these words, over files and an output that had counted no fault, ended with this status, and left the rig so
pub record HasCalled (words : List (List ℕ)) (rig rig_now : RigView) (status : Status) : Type 0 where
  pub shelf : ShelfView
  pub shelf_now : ShelfView
  pub sink : OutputView
  pub sink_now : OutputView
  pub words_are : shelf.words ≡ words
  pub unread : (place : ℕ) → place < 16 → shelf.faults place ≡ 0
  pub unwritten : sink.faults ≡ 0
  pub ended : HasEnded (request_in words) (record { shelf = shelf; sink = sink; rig = rig })
      (record { shelf = shelf_now; sink = sink_now; rig = rig_now }) status

-- .. where there was memory for the words; else nothing was done
abbrev pub HasCome : Option (List (List ℕ)) → (rig rig_now : RigView) → Status → Type 0
HasCome (Some words) rig rig_now s = HasCalled words rig rig_now s
HasCome None rig rig_now s = (s ≡ status.Memory) × (rig_now ≡ rig)
