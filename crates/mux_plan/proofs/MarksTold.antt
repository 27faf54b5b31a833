-- A step that is neither a message nor a line changes no mark.
use Rattle.mux_plan.proofs.Cited.{◌≡◌, ℕ, List, [], ◌∷◌, drop, refl, sym, subst, Hop, locks_of, ActOutcome, JobOutcome, first_act}
use Rattle.mux_plan.proofs.Cited.{first_note, locked, inner, Work, Task, Enter, Lock, Free, Rest, Line, Settle, AwaitClose, Pass}
use Rattle.mux_plan.proofs.Cited.{AwaitSelect, AwaitWork, AwaitDeselect, RouteView, job_of, note_of, tree_of, updates_after, IsStep}

module _ (c : RouteView) (out : JobOutcome) (o : ActOutcome) where
  updates-lock : (m n : ℕ) (w : Work) (ts : List Task)
      → updates_after (first_act (tree_of c (Lock m n w ∷ ts) out)) (first_note (tree_of c (Lock m n w ∷ ts) out)) o ≡ []
  updates-lock m n w ts = by (drop m c.path)
    where
      by : (hs : List Hop)
          → updates_after (first_act (locked (locks_of c.root hs) (inner c.board c.root (drop n c.path)) (job_of c w) (note_of c ts)
          (tree_of c ts)))
          (first_note (locked (locks_of c.root hs) (inner c.board c.root (drop n c.path)) (job_of c w) (note_of c ts) (tree_of c ts))) o
          ≡ []
      by [] = refl
      by (g ∷ hs) = refl

  updates-other : (t : Task) (ts : List Task) → IsStep (t ∷ ts) → ((left : ℕ) (w : Work) → t ≡ Rest left w → ⊥)
      → ((w : Work) → t ≡ Line w → ⊥)
      → updates_after (first_act (tree_of c (t ∷ ts) out)) (first_note (tree_of c (t ∷ ts) out)) o ≡ []
  updates-other (Enter n w) ts step no_message no_line = absurd step
  updates-other (Lock m n w) ts step no_message no_line = updates-lock m n w ts
  updates-other (Free l) ts step no_message no_line = refl
  updates-other (Rest left w) ts step no_message no_line = absurd (no_message left w refl)
  updates-other (Line w) ts step no_message no_line = absurd (no_line w refl)
  updates-other (Settle x) ts step no_message no_line = refl
  updates-other (AwaitClose k m w) ts step no_message no_line = absurd step
  updates-other (Pass k w) ts step no_message no_line = absurd step
  updates-other (AwaitSelect k w) ts step no_message no_line = absurd step
  updates-other (AwaitWork k) ts step no_message no_line = absurd step
  updates-other (AwaitDeselect k was) ts step no_message no_line = absurd step

  pub no-updates : (stack : List Task) (t : Task) (ts : List Task) → stack ≡ t ∷ ts → IsStep stack
      → ((left : ℕ) (w : Work) → t ≡ Rest left w → ⊥) → ((w : Work) → t ≡ Line w → ⊥)
      → updates_after (first_act (tree_of c stack out)) (first_note (tree_of c stack out)) o ≡ []
  no-updates stack t ts e step no_message no_line =
      subst (λ (xs : List Task). updates_after (first_act (tree_of c xs out)) (first_note (tree_of c xs out)) o ≡ []) (sym e)
      (updates-other t ts (subst IsStep e step) no_message no_line)
