-- A walk with a task that doesn't wait has a step to come: its tree doesn't end.
use Rattle.mux_plan.proofs.Cited.{◌≡◌, ℕ, zero, suc, Bool, true, false, cond, List, [], ◌∷◌, length, drop, ◌<◌, refl, sym, ◌∙◌, arith, Hop}
use Rattle.mux_plan.proofs.Cited.{locks_of, Job, JobOutcome, Note, WalkTree, Then, is_line, more_of, over, locked, part, messages, at_bus}
use Rattle.mux_plan.proofs.Cited.{behind, inner, is_over, Task, Enter, Lock, Free, Rest, Line, Settle, AwaitClose, Pass, AwaitSelect}
use Rattle.mux_plan.proofs.Cited.{AwaitWork, AwaitDeselect, RouteView, job_of, note_of, tree_of, IsReady}
use Rattle.bus_spec.specs.Walk as walk
use Rattle.mux_plan.specs.Rooms.{IsWalk}

module _ (c : RouteView) where
  goes_on-messages : (left : ℕ) (job : Job) (note : Note) (k : JobOutcome → WalkTree) → is_over (messages left job note k) ≡ false
  goes_on-messages zero job note k = refl
  goes_on-messages (suc left) job note k = refl

  goes_on-bus : (job : Job) (note : Note) (k : JobOutcome → WalkTree) → is_over (at_bus job note k) ≡ false
  goes_on-bus job note k = by (is_line job)
    where
      by : (x : Bool) → is_over (cond x (Then (walk.Shift job) note (over job zero note k)) (messages (more_of job) job note k)) ≡ false
      by true = refl
      by false = goes_on-messages (more_of job) job note k

  goes_on-inner : (hs : List Hop) (job : Job) (note : Note) (k : JobOutcome → WalkTree) → is_over
      (inner c.board c.root hs job note k) ≡ false
  goes_on-inner [] job note k = goes_on-bus job note k
  goes_on-inner (h ∷ hs) job note k = by (is_line job)
    where
      by : (x : Bool) → is_over (cond x (at_bus job note k)
          (behind c.board h (part h.parent (locks_of c.root hs) (inner c.board c.root hs)) job note k)) ≡ false
      by true = goes_on-bus job note k
      by false = refl

  goes_on : (t : Task) (ts : List Task) (out : JobOutcome) → IsReady (t ∷ ts) → is_over (tree_of c (t ∷ ts) out) ≡ false
  goes_on (Enter n w) ts out ready = goes_on-inner (drop n c.path) (job_of c w) (note_of c ts) (tree_of c ts)
  goes_on (Lock m n w) ts out ready = by (drop m c.path)
    where
      by : (hs : List Hop) → is_over
          (locked (locks_of c.root hs) (inner c.board c.root (drop n c.path)) (job_of c w) (note_of c ts) (tree_of c ts)) ≡ false
      by [] = refl
      by (g ∷ hs) = refl
  goes_on (Free l) ts out ready = refl
  goes_on (Rest left w) ts out ready = goes_on-messages left (job_of c w) (note_of c ts) (tree_of c ts)
  goes_on (Line w) ts out ready = refl
  goes_on (Settle x) ts out ready = refl
  goes_on (AwaitClose k m w) ts out ready = absurd ready
  goes_on (Pass k w) ts out ready = refl
  goes_on (AwaitSelect k w) ts out ready = absurd ready
  goes_on (AwaitWork k) ts out ready = absurd ready
  goes_on (AwaitDeselect k was) ts out ready = absurd ready

  pub is_over-empty : (ts : List Task) (out : JobOutcome) (empty : Bool) → IsReady ts → (empty ≡ true → ts ≡ [])
      → (empty ≡ false → 0 < length ts) → empty ≡ is_over (tree_of c ts out)
  is_over-empty [] out true ready none some = refl
  is_over-empty [] out false ready none some = absurd (omega (arith, some refl))
  is_over-empty (t ∷ ts) out true ready none some = absurd (let e : t ∷ ts ≡ [] = none refl in cc)
  is_over-empty (t ∷ ts) out false ready none some = sym (goes_on t ts out ready)

  -- the tasks of a walk and those with its looks answered end together
  pub both-over : (out : JobOutcome) (tasks looked : List Task) → IsWalk c tasks looked
      → is_over (tree_of c looked out) ≡ is_over (tree_of c tasks out)
  both-over out [] [] is = refl
  both-over out [] (t ∷ ts) is = absurd (let e : t ∷ ts ≡ [] = is.none refl in cc)
  both-over out (t ∷ ts) [] is = absurd (omega (arith, is.some (omega arith)))
  both-over out (t ∷ ts) (x ∷ xs) is = goes_on x xs out is.ready ∙ sym (goes_on t ts out is.waits)
