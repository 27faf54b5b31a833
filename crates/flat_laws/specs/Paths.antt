-- The paths of a walk: what is done on the way from one tree to another, whatever its looks are answered and whatever
-- comes of its steps.
use Rattle.std.specs.Prelude.{◌≡◌, List, [], ◌∷◌, ◌++◌}
use Rattle.bus_spec.specs.Walk.{Job, Act, JobOutcome, Note, WalkTree, Ends, Look, Then}
use Rattle.bus_spec.specs.WalkRule.{marks_on, is_forward, Deed, PathStep, Saw, Did, Rule}

-- the note of a job on its way, and what a step of the tree is
abbrev pub note_of : Job → List Job → Note
note_of job whose = record { marks = marks_on (job ∷ whose); forward = is_forward (job ∷ whose) }

abbrev pub deed_by : Act → Note → Deed
deed_by act note = record { act = act; marks = note.marks }

-- these lead from one tree to another
abbrev pub IsPath : List PathStep → WalkTree → WalkTree → Type 0
IsPath [] w to = w ≡ to
IsPath (Saw asked mark ∷ steps) Ends to = ⊥
IsPath (Saw asked mark ∷ steps) (Look ask next) to = (asked ≡ ask) × IsPath steps (next mark) to
IsPath (Saw asked mark ∷ steps) (Then act note next) to = ⊥
IsPath (Did done out ∷ steps) Ends to = ⊥
IsPath (Did done out ∷ steps) (Look ask next) to = ⊥
IsPath (Did done out ∷ steps) (Then act note next) to = (done ≡ deed_by act note) × IsPath steps (next out) to

-- steps that begin with those of a job by a rule, and go on as is said for what came of it
pub record IsDoneBy (rule : Rule) (job : Job) (whose : List Job) (k : JobOutcome → WalkTree) (steps : List PathStep) : Type 0 where
  pub done : List PathStep
  pub rest : List PathStep
  pub out : JobOutcome
  pub all : steps ≡ done ++ rest
  pub by_rule : rule job whose done out
  pub goes_on : IsPath rest (k out) Ends
