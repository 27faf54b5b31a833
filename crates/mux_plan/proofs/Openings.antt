-- Opening a task changes the stack and not its tree: both sides compute to the same, but for the path and the lock mode.
use Rattle.mux_plan.proofs.Cited.{◌≡◌, ℕ, zero, suc, ◌+◌, ◌==◌, Bool, true, false, cond, not, List, [], ◌∷◌, drop, Option, Some, None, refl}
use Rattle.mux_plan.proofs.Cited.{sym, ◌∙◌, ap, inl, inr, list_any, Hop, locks_of, Job, ActOutcome, JobOutcome, Note, WalkTree, Then}
use Rattle.mux_plan.proofs.Cited.{is_line, more_of, Slots, mark_in, over, locked, part, messages, at_bus, keeps, behind, inner, seen}
use Rattle.mux_plan.proofs.Cited.{first_act, rest_of, Work, Task, Enter, Lock, Free, Rest, Line, Settle, AwaitClose, Pass, AwaitSelect}
use Rattle.mux_plan.proofs.Cited.{AwaitWork, AwaitDeselect, RouteView, hop_at, job_of, note_of, tree_of, part_task, SeenView, mark_on}
use Rattle.mux_plan.proofs.Cited.{kept_of, select_tasks, wait_tasks, is_deselect, slots_of, crossed_tasks, IsStep, IsReady}
use Rattle.std.proofs.Common.{◌&&◌, ◌⊎◌}
use Rattle.std.proofs.lemmas.List.{drop-drop}
use Rattle.std.proofs.Math.Path.{fun_ext}
use Rattle.i2c_base.specs.declared.errno.Errno.{Errno}
use Rattle.bus_spec.specs.Walk.{Good, Look, KeptOf}
use Rattle.bus_spec.specs.Walk as walk
use Rattle.bus_spec.specs.Grammar.{Doer, plain, closing, left_behind, opened, chosen, crossed}
use Rattle.mux_plan.specs.declared.task.Work.TheVariants as work
use Rattle.mux_plan.specs.Plans.{on_bus, choice_of, switch_of, work_tasks, first_lock, locks_on, slot_of}

-- the mark that is told is the one that is seen
pub mark_slot : (x : Option ℕ) → mark_in (slot_of x) ≡ x
mark_slot (Some m) = refl
mark_slot None = refl

-- a mux that keeps a channel stays as it is
keeps_stays : (h : Hop) (kept : Option ℕ) → keeps h kept ≡ true → h.stays ≡ true
keeps_stays h None e = cc
keeps_stays h (Some c) e = by h.stays refl e
  where
    by : (t : Bool) → h.stays ≡ t → t && (c == h.channel) ≡ true → h.stays ≡ true
    by true is both = is
    by false is both = cc

-- what comes first at a mux, and what waits for it, by what is told
abbrev pub next_in : RouteView → SeenView → ℕ → Work → Work
next_in c s k w = switch_of c k (mark_on s (hop_at c k).on) (keeps (hop_at c k) (kept_of s (hop_at c k).mux)) w

abbrev pub waits_at : RouteView → SeenView → ℕ → Work → List Task → List Task
waits_at c s k w ts = wait_tasks (mark_on s (hop_at c k).on) (keeps (hop_at c k) (kept_of s (hop_at c k).mux)) k w ts

module _ (c : RouteView) where
  -- a job for the bus that a mux stands on
  part_tree : (parent : Bool) (n : ℕ) (w : Work) (ts : List Task) (out : JobOutcome)
      → tree_of c (part_task parent n w ∷ ts) out
      ≡ part parent (locks_of c.root (drop n c.path)) (inner c.board c.root (drop n c.path)) (job_of c w) (note_of c ts) (tree_of c ts)
  part_tree true n w ts out = refl
  part_tree false n w ts out = refl

  -- behind a mux that stays as it is nothing is left to do
  left_nothing : (h : Hop) (on : Doer) (k : JobOutcome → WalkTree) → left_behind true h on k ≡ k
  left_nothing h on k = fun_ext (λ out. refl)

  opened_by : (k : ℕ) (w : Work) (ts : List Task) (stays : Bool) → (hop_at c k).stays ≡ stays
      → opened (hop_at c k) (on_bus c k) (job_of c w) (note_of c ts) (tree_of c ts)
      ≡ on_bus c k (job_of c w) (note_of c (work_tasks stays k ts)) (tree_of c (work_tasks stays k ts))
  opened_by k w ts true e =
      let h = hop_at c k in
      ap (λ (t : Bool). on_bus c k (job_of c w) (note_of c ts) (left_behind t h (on_bus c k) (tree_of c ts))) e
      ∙ ap (λ (x : JobOutcome → WalkTree). on_bus c k (job_of c w) (note_of c ts) x)
      (left_nothing h (on_bus c k) (tree_of c ts))
  opened_by k w ts false e =
      let h = hop_at c k in
      ap (λ (t : Bool). on_bus c k (job_of c w) (note_of c ts) (left_behind t h (on_bus c k) (tree_of c ts))) e
      ∙ ap (λ (x : JobOutcome → WalkTree). on_bus c k (job_of c w) (note_of c ts) x) (fun_ext (λ out. refl))

  -- the work behind a mux, whose channel is open
  pub opened_tree : (k : ℕ) (w : Work) (ts : List Task) (out : JobOutcome)
      → tree_of c (part_task (hop_at c k).parent (k + 1) w ∷ work_tasks (hop_at c k).stays k ts) out
      ≡ opened (hop_at c k) (on_bus c k) (job_of c w) (note_of c ts) (tree_of c ts)
  opened_tree k w ts out =
      part_tree (hop_at c k).parent (k + 1) w (work_tasks (hop_at c k).stays k ts) out ∙ sym (opened_by k w ts (hop_at c k).stays refl)

  -- the job at a mux that isn't to be closed
  pub crossed_tree : (k : ℕ) (w : Work) (ts : List Task) (out : JobOutcome) (kept : Option ℕ) (keep : Bool)
      → keeps (hop_at c k) kept ≡ keep
      → crossed (hop_at c k) (on_bus c k) (job_of c w) (note_of c ts) (tree_of c ts) kept
      ≡ tree_of c (part_task (hop_at c k).parent (k + 1) (choice_of c k keep w) ∷ select_tasks keep k w ts) out
  crossed_tree k w ts out kept true e =
      let h = hop_at c k in
      let on = on_bus c k in
      let job = job_of c w in
      ap (λ (t : Bool). cond t (opened h on job (note_of c ts) (tree_of c ts)) (chosen h on job (note_of c ts) (tree_of c ts))) e
      ∙ opened_by k w ts true (keeps_stays h kept e)
      ∙ sym (part_tree h.parent (k + 1) w ts out)
  crossed_tree k w ts out kept false e =
      let h = hop_at c k in
      let on = on_bus c k in
      let job = job_of c w in
      ap (λ (t : Bool). cond t (opened h on job (note_of c ts) (tree_of c ts)) (chosen h on job (note_of c ts) (tree_of c ts))) e
      ∙ sym (part_tree h.parent (k + 1) (work.Select k) (AwaitSelect k w ∷ ts) out)

  closing_tree : (s : SeenView) (k : ℕ) (w : Work) (ts : List Task) (out : JobOutcome) (mark : Option ℕ)
      → seen (slots_of s) (closing c.board (hop_at c k) (on_bus c k) (note_of c ts) (tree_of c ts)
      (Look (KeptOf (hop_at c k).on (hop_at c k).mux)
      (crossed (hop_at c k) (on_bus c k) (job_of c w) (note_of c ts) (tree_of c ts))) mark)
      ≡ seen (slots_of s) (tree_of c
      (part_task (hop_at c k).parent (k + 1) (switch_of c k mark (keeps (hop_at c k) (kept_of s (hop_at c k).mux)) w)
      ∷ wait_tasks mark (keeps (hop_at c k) (kept_of s (hop_at c k).mux)) k w ts)
      out)
  closing_tree s k w ts out None = ap (seen (slots_of s))
      (crossed_tree k w ts out (kept_of s (hop_at c k).mux) (keeps (hop_at c k) (kept_of s (hop_at c k).mux)) refl)
  closing_tree s k w ts out (Some m) = ap (seen (slots_of s))
      (sym (part_tree (hop_at c k).parent (k + 1) (switch_of c k (Some m) (keeps (hop_at c k) (kept_of s (hop_at c k).mux)) w)
      (AwaitClose k m w ∷ ts) out))

  -- after a close
  pub tree_of-pass : (s : SeenView) (k : ℕ) (w : Work) (ts : List Task) (out : JobOutcome)
      → seen (slots_of s) (tree_of c (Pass k w ∷ ts) out)
      ≡ seen (slots_of s) (tree_of c
      (part_task (hop_at c k).parent (k + 1) (choice_of c k (keeps (hop_at c k) (kept_of s (hop_at c k).mux)) w)
      ∷ select_tasks (keeps (hop_at c k) (kept_of s (hop_at c k).mux)) k w ts) out)
  tree_of-pass s k w ts out = ap (seen (slots_of s))
      (crossed_tree k w ts out (kept_of s (hop_at c k).mux) (keeps (hop_at c k) (kept_of s (hop_at c k).mux)) refl)

  -- a job comes to a mux
  pub tree_of-look : (s : SeenView) (k : ℕ) (w : Work) (ts : List Task) (out : JobOutcome)
      → drop k c.path ≡ hop_at c k ∷ drop (k + 1) c.path → is_line (job_of c w) ≡ false
      → seen (slots_of s) (tree_of c (Enter k w ∷ ts) out)
      ≡ seen (slots_of s) (tree_of c (part_task (hop_at c k).parent (k + 1) (next_in c s k w) ∷ waits_at c s k w ts) out)
  tree_of-look s k w ts out at_hop by_message =
      let v = slots_of s in
      let h = hop_at c k in
      let on = on_bus c k in
      let job = job_of c w in
      let note = note_of c ts in
      let go = tree_of c ts in
      ap (λ (hs : List Hop). seen v (inner c.board c.root hs job note go)) at_hop
      ∙ ap (λ (x : Bool). seen v (cond x (at_bus job note go) (behind c.board h on job note go))) by_message
      ∙ ap (λ (x : Option ℕ). seen v (closing c.board h on note go (Look (KeptOf h.on h.mux) (crossed h on job note go)) x))
      (mark_slot (mark_on s h.on))
      ∙ closing_tree s k w ts out (mark_on s h.on)

  -- .. and to the end of its way
  seen_bus : (v : Slots) (job : Job) (note : Note) (k : JobOutcome → WalkTree) → seen v (at_bus job note k) ≡ at_bus job note k
  seen_bus v job note k = by (is_line job) (more_of job)
    where
      by : (x : Bool) (left : ℕ) → seen v (cond x (Then (walk.Shift job) note (over job zero note k)) (messages left job note k)) ≡ cond x
          (Then (walk.Shift job) note (over job zero note k)) (messages left job note k)
      by true left = refl
      by false zero = refl
      by false (suc left) = refl

  inner_bus : (hs : List Hop) (job : Job) (note : Note) (k : JobOutcome → WalkTree) → (is_line job ≡ true) ⊎ (hs ≡ [])
      → inner c.board c.root hs job note k ≡ at_bus job note k
  inner_bus [] job note k at_end = refl
  inner_bus (h ∷ hs) job note k (inl line) = ap
      (λ (x : Bool). cond x (at_bus job note k) (behind c.board h (part h.parent (locks_of c.root hs)
      (inner c.board c.root hs)) job note k)) line
  inner_bus (h ∷ hs) job note k (inr none) = absurd (let f : h ∷ hs ≡ [] = none in cc)

  pub tree_of-bus : (s : SeenView) (n : ℕ) (w : Work) (ts : List Task) (out : JobOutcome)
      → (is_line (job_of c w) ≡ true) ⊎ (drop n c.path ≡ [])
      → seen (slots_of s) (tree_of c (Enter n w ∷ ts) out) ≡ at_bus (job_of c w) (note_of c ts) (tree_of c ts)
  tree_of-bus s n w ts out at_end =
      ap (seen (slots_of s)) (inner_bus (drop n c.path) (job_of c w) (note_of c ts) (tree_of c ts) at_end)
      ∙ seen_bus (slots_of s) (job_of c w) (note_of c ts) (tree_of c ts)

  -- a lock is taken, and freed after the job
  locked_first : (on : Doer) (hs rest : List Hop) (job : Job) (note : Note) (k : JobOutcome → WalkTree) → rest ≡ drop 1 hs
      → locked (locks_of c.root hs) on job note k
      ≡ Then (walk.Take (first_lock c.root hs)) plain
      (λ o. locked (cond (locks_on hs) (locks_of c.root rest) []) on job note
      (λ out. Then (walk.Free (first_lock c.root hs)) plain (λ o2. k out)))
  locked_first on [] rest job note k e = refl
  locked_first on (h ∷ hs) rest job note k e =
      ap (λ (xs : List Hop). Then (walk.Take (first_lock c.root (h ∷ hs))) plain
      (λ o. locked (cond h.parent (locks_of c.root xs) []) on job note
      (λ out. Then (walk.Free (first_lock c.root (h ∷ hs))) plain (λ o2. k out)))) (sym e)

  lock_task : (t : Bool) (m n : ℕ) (w : Work) (ts : List Task) (out : JobOutcome)
      → locked (cond t (locks_of c.root (drop m c.path)) []) (inner c.board c.root (drop n c.path)) (job_of c w) (note_of c ts)
      (tree_of c ts)
      ≡ tree_of c (cond t (Lock m n w) (Enter n w) ∷ ts) out
  lock_task true m n w ts out = refl
  lock_task false m n w ts out = refl

  pub tree_of-lock : (m n : ℕ) (w : Work) (ts : List Task) (out out2 : JobOutcome)
      → tree_of c (Lock m n w ∷ ts) out
      ≡ Then (walk.Take (first_lock c.root (drop m c.path))) plain
      (λ o. tree_of c (cond (locks_on (drop m c.path)) (Lock (m + 1) n w) (Enter n w) ∷ Free (first_lock c.root (drop m c.path)) ∷ ts)
      out2)
  tree_of-lock m n w ts out out2 =
      locked_first (inner c.board c.root (drop n c.path)) (drop m c.path) (drop (m + 1) c.path) (job_of c w) (note_of c ts) (tree_of c ts)
      (sym (drop-drop 1 m c.path))
      ∙ ap (λ (x : WalkTree). Then (walk.Take (first_lock c.root (drop m c.path))) plain (λ o. x))
      (lock_task (locks_on (drop m c.path)) (m + 1) n w (Free (first_lock c.root (drop m c.path)) ∷ ts) out2)

  -- a step has no look in front
  pub seen-step : (v : Slots) (ts : List Task) (out : JobOutcome) → IsStep ts → seen v (tree_of c ts out) ≡ tree_of c ts out
  seen-step v [] out h = refl
  seen-step v (Enter n w ∷ ts) out h = absurd h
  seen-step v (Lock m n w ∷ ts) out h = by_lock (drop m c.path)
    where
      by_lock : (hs : List Hop) → seen v
          (locked (locks_of c.root hs) (inner c.board c.root (drop n c.path)) (job_of c w) (note_of c ts) (tree_of c ts)) ≡ locked
          (locks_of c.root hs) (inner c.board c.root (drop n c.path)) (job_of c w) (note_of c ts) (tree_of c ts)
      by_lock [] = refl
      by_lock (g ∷ hs) = refl
  seen-step v (Free l ∷ ts) out h = refl
  seen-step v (Rest zero w ∷ ts) out h = refl
  seen-step v (Rest (suc left) w ∷ ts) out h = refl
  seen-step v (Line w ∷ ts) out h = refl
  seen-step v (Settle x ∷ ts) out h = refl
  seen-step v (AwaitClose k m w ∷ ts) out h = absurd h
  seen-step v (Pass k w ∷ ts) out h = absurd h
  seen-step v (AwaitSelect k w ∷ ts) out h = absurd h
  seen-step v (AwaitWork k ∷ ts) out h = absurd h
  seen-step v (AwaitDeselect k was ∷ ts) out h = absurd h

-- the messages of a job: the first step, and what follows
pub messages-first : (left : ℕ) (job : Job) (note : Note) (k : JobOutcome → WalkTree)
    → first_act (messages left job note k) ≡ Some (walk.Send job left)
messages-first zero job note k = refl
messages-first (suc left) job note k = refl

-- a task is on the way to the caller's messages where no deselect is under way
pub note_of-forward : (c : RouteView) (ts : List Task) → (note_of c ts).forward ≡ not (list_any is_deselect ts)
note_of-forward c [] = refl
note_of-forward c (Enter n w ∷ ts) = note_of-forward c ts
note_of-forward c (Lock m n w ∷ ts) = note_of-forward c ts
note_of-forward c (Free l ∷ ts) = note_of-forward c ts
note_of-forward c (Rest left w ∷ ts) = note_of-forward c ts
note_of-forward c (Line w ∷ ts) = note_of-forward c ts
note_of-forward c (Settle v ∷ ts) = note_of-forward c ts
note_of-forward c (AwaitClose k m w ∷ ts) = note_of-forward c ts
note_of-forward c (Pass k w ∷ ts) = note_of-forward c ts
note_of-forward c (AwaitSelect k w ∷ ts) = note_of-forward c ts
note_of-forward c (AwaitWork k ∷ ts) = note_of-forward c ts
note_of-forward c (AwaitDeselect k was ∷ ts) = refl

-- the same at the front of a stack, by the step that a task is
pub first_of-task : (c : RouteView) (t : Task) (ts : List Task) (out : JobOutcome) → IsStep (t ∷ ts)
    → first_act (tree_of c (t ∷ ts) out) ≡ first_act (tree_of c (t ∷ []) Good)
first_of-task c (Enter n w) ts out h = absurd h
first_of-task c (Lock m n w) ts out h =
    ap first_act (tree_of-lock c m n w ts out out) ∙ sym (ap first_act (tree_of-lock c m n w [] Good out))
first_of-task c (Free l) ts out h = refl
first_of-task c (Rest left w) ts out h =
    messages-first left (job_of c w) (note_of c ts) (tree_of c ts)
    ∙ sym (messages-first left (job_of c w) (note_of c []) (tree_of c []))
first_of-task c (Line w) ts out h = refl
first_of-task c (Settle v) ts out h = refl
first_of-task c (AwaitClose k m w) ts out h = absurd h
first_of-task c (Pass k w) ts out h = absurd h
first_of-task c (AwaitSelect k w) ts out h = absurd h
first_of-task c (AwaitWork k) ts out h = absurd h
first_of-task c (AwaitDeselect k was) ts out h = absurd h

-- a settle comes next where it is on the top, and nowhere else
pub no_settle : (c : RouteView) (t : Task) (ts : List Task) (out : JobOutcome)
    → IsStep (t ∷ ts) → ((x : Option Errno) → t ≡ Settle x → ⊥)
    → (verdict : Option Errno) → first_act (tree_of c (t ∷ ts) out) ≡ Some (walk.Settle verdict) → ⊥
no_settle c (Enter n w) ts out step other = absurd step
no_settle c (Lock m n w) ts out step other =
    λ verdict h. (let f : Some (walk.Take (first_lock c.root (drop m c.path))) ≡ Some (walk.Settle verdict) = sym
    (ap first_act (tree_of-lock c m n w ts out out)) ∙ h in cc)
no_settle c (Free l) ts out step other = λ verdict h. (let f : Some (walk.Free l) ≡ Some (walk.Settle verdict) = h in cc)
no_settle c (Rest zero w) ts out step other = λ verdict h.
    (let f : Some (walk.Send (job_of c w) zero) ≡ Some (walk.Settle verdict) = h in cc)
no_settle c (Rest (suc left) w) ts out step other = λ verdict h.
    (let f : Some (walk.Send (job_of c w) (suc left)) ≡ Some (walk.Settle verdict) = h in cc)
no_settle c (Line w) ts out step other = λ verdict h.
    (let f : Some (walk.Shift (job_of c w)) ≡ Some (walk.Settle verdict) = h in cc)
no_settle c (Settle x) ts out step other = absurd (other x refl)
no_settle c (AwaitClose k m w) ts out step other = absurd step
no_settle c (Pass k w) ts out step other = absurd step
no_settle c (AwaitSelect k w) ts out step other = absurd step
no_settle c (AwaitWork k) ts out step other = absurd step
no_settle c (AwaitDeselect k was) ts out step other = absurd step

-- after a close: what comes first there, over what waits for it
pub passes-by : (c : RouteView) (s : SeenView) (k : ℕ) (w : Work) (ts : List Task)
    (out : JobOutcome)
    → (parent : Bool) → (hop_at c k).parent ≡ parent
    → (next : Work) (below : List Task) → next ≡ choice_of c k (keeps (hop_at c k) (kept_of s (hop_at c k).mux)) w
    → below ≡ select_tasks (keeps (hop_at c k) (kept_of s (hop_at c k).mux)) k w ts
    → seen (slots_of s) (tree_of c (part_task parent (k + 1) next ∷ below) out) ≡ seen (slots_of s)
    (tree_of c (Pass k w ∷ ts) out)
passes-by c s k w ts out parent e next below by_choice stack =
    let keep = keeps (hop_at c k) (kept_of s (hop_at c k).mux) in
    ap (λ (x : Work). seen (slots_of s) (tree_of c (part_task parent (k + 1) x ∷ below) out)) by_choice
    ∙ ap (λ (xs : List Task). seen (slots_of s) (tree_of c (part_task parent (k + 1) (choice_of c k keep w) ∷ xs) out))
    stack
    ∙ sym (tree_of-pass c s k w ts out
    ∙ ap (λ (t : Bool). seen (slots_of s)
    (tree_of c (part_task t (k + 1) (choice_of c k keep w) ∷ select_tasks keep k w ts)
    out)) e)

-- a mux is crossed in the stack: what does the job comes over what waits
pub tree_of-cross : (c : RouteView) (s : SeenView) (k : ℕ) (w : Work) (ts : List Task)
    (out : JobOutcome)
    → drop k c.path ≡ hop_at c k ∷ drop (k + 1) c.path → is_line (job_of c w) ≡ false → (parent : Bool) → (hop_at c k).parent ≡ parent
    → seen (slots_of s) (tree_of c (part_task parent (k + 1) (next_in c s k w) ∷ waits_at c s k w ts) out)
    ≡ seen (slots_of s) (tree_of c (Enter k w ∷ ts) out)
tree_of-cross c s k w ts out at_hop by_message parent e =
    sym (tree_of-look c s k w ts out at_hop by_message
    ∙ ap (λ (t : Bool). seen (slots_of s) (tree_of c (part_task t (k + 1) (next_in c s k w) ∷ waits_at c s k w ts) out)) e)

-- the first lock is taken
pub tree_of-locked : (c : RouteView) (m n : ℕ) (w : Work) (ts : List Task) (out out2 : JobOutcome)
    (o : ActOutcome) (more : Bool)
    → locks_on (drop m c.path) ≡ more
    → tree_of c (cond more (Lock (m + 1) n w) (Enter n w) ∷ Free (first_lock c.root (drop m c.path)) ∷ ts) out
    ≡ rest_of (tree_of c (Lock m n w ∷ ts) out2) o
tree_of-locked c m n w ts out out2 o more e =
    ap (λ (t : Bool). tree_of c (cond t (Lock (m + 1) n w) (Enter n w) ∷ Free (first_lock c.root (drop m c.path)) ∷ ts) out) (sym e)
    ∙ sym (ap (λ (x : WalkTree). rest_of x o) (tree_of-lock c m n w ts out2 out))

-- .. as the loop has it: what was so far is the whole
module _ (s : SeenView) (c : RouteView) (k : ℕ) (w : Work) (ts : List Task)
    (out : JobOutcome) where
  crossed_by : (t : Bool) → (hop_at c k).parent ≡ t → (c1 : RouteView) (next : Work) (new : List Task)
      → c1 ≡ c → next ≡ next_in c s k w
      → new ≡ crossed_tasks (hop_at c k).parent (mark_on s (hop_at c k).on) (keeps (hop_at c k) (kept_of s (hop_at c k).mux)) k w next ts
      → (f : RouteView → Work → List Task → WalkTree)
      → f c1 next new
      ≡ f c (next_in c s k w)
      (cond t (waits_at c s k w ts) (Lock (k + 1) (k + 1) (next_in c s k w) ∷ waits_at c s k w ts))
  crossed_by t e c1 next new same by_switch stack f =
      let waits = waits_at c s k w ts in
      ap (λ (x : RouteView). f x next new) same
      ∙ ap (f c next) stack
      ∙ ap (λ (x : Work). f c x (cond (hop_at c k).parent waits (Lock (k + 1) (k + 1) x ∷ waits))) by_switch
      ∙ ap (λ (x : Bool). f c (next_in c s k w) (cond x waits (Lock (k + 1) (k + 1) (next_in c s k w) ∷ waits))) e

  pub enters-lock : drop k c.path ≡ hop_at c k ∷ drop (k + 1) c.path → is_line (job_of c w) ≡ false → (hop_at c k).parent ≡ false
      → (c1 : RouteView) (next : Work) (new : List Task)
      → c1 ≡ c → next ≡ next_in c s k w
      → new ≡ crossed_tasks (hop_at c k).parent (mark_on s (hop_at c k).on) (keeps (hop_at c k) (kept_of s (hop_at c k).mux)) k w next ts
      → tree_of c1 new out ≡ seen (slots_of s) (tree_of c (Enter k w ∷ ts) out)
  enters-lock at_hop by_message e c1 next new same by_switch stack =
      crossed_by false e c1 next new same by_switch stack (λ x y z. tree_of x z out)
      ∙ sym (seen-step c (slots_of s) (Lock (k + 1) (k + 1) (next_in c s k w) ∷ waits_at c s k w ts) out tt)
      ∙ tree_of-cross c s k w ts out at_hop by_message false e

  pub enters-next : drop k c.path ≡ hop_at c k ∷ drop (k + 1) c.path → is_line (job_of c w) ≡ false → (hop_at c k).parent ≡ true
      → (c1 : RouteView) (next : Work) (new : List Task)
      → c1 ≡ c → next ≡ next_in c s k w
      → new ≡ crossed_tasks (hop_at c k).parent (mark_on s (hop_at c k).on) (keeps (hop_at c k) (kept_of s (hop_at c k).mux)) k w next ts
      → seen (slots_of s) (tree_of c1 (Enter (k + 1) next ∷ new) out) ≡ seen (slots_of s) (tree_of c (Enter k w ∷ ts) out)
  enters-next at_hop by_message e c1 next new same by_switch stack =
      crossed_by true e c1 next new same by_switch stack (λ x y z. seen (slots_of s) (tree_of x (Enter (k + 1) y ∷ z) out))
      ∙ tree_of-cross c s k w ts out at_hop by_message true e

-- a task that doesn't wait, and doesn't begin a job, is a step
pub ready-step : (t : Task) (ts : List Task) → IsReady (t ∷ ts) → ((n : ℕ) (w : Work) → t ≡ Enter n w → ⊥)
    → ((k : ℕ) (w : Work) → t ≡ Pass k w → ⊥) → IsStep (t ∷ ts)
ready-step (Enter n w) ts ready other pass = other n w refl
ready-step (Lock m n w) ts ready other pass = tt
ready-step (Free l) ts ready other pass = tt
ready-step (Rest left w) ts ready other pass = tt
ready-step (Line w) ts ready other pass = tt
ready-step (Settle v) ts ready other pass = tt
ready-step (AwaitClose k m w) ts ready other pass = ready
ready-step (Pass k w) ts ready other pass = pass k w refl
ready-step (AwaitSelect k w) ts ready other pass = ready
ready-step (AwaitWork k) ts ready other pass = ready
ready-step (AwaitDeselect k was) ts ready other pass = ready
