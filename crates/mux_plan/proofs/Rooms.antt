-- A stack has room: below each task lie so many tasks for each mux that was crossed.
use Rattle.mux_plan.proofs.Cited.{◌≡◌, ℕ, ◌+◌, ◌<◌, ◌≤◌, Bool, true, false, cond, sym, ◌∙◌, ap, subst, List, ◌∷◌, drop, length, Option}
use Rattle.mux_plan.proofs.Cited.{Some, None, arith, JobOutcome, Work, Task, Enter, Lock, Pass, RouteView, tree_of, part_task, select_tasks}
use Rattle.mux_plan.proofs.Cited.{wait_tasks, crossed_tasks, IsPlanned}
use Rattle.std.proofs.Common.{◌*◌}
use Rattle.mux_plan.specs.Rooms.{IsPlacedWork, IsPlaced}

-- a mux is crossed: the job that comes first there stands over what waits
select_placed : (d : ℕ) (keep : Bool) (k : ℕ) (w : Work) (ts : List Task) → IsPlacedWork d w → k < d
    → length ts + 1 ≤ 6 * (k + 1) → IsPlaced d ts
    → IsPlaced d (select_tasks keep k w ts) × (length (select_tasks keep k w ts) ≤ 6 * (k + 1))
select_placed d true k w ts own within room placed = (placed, omega (arith, room))
select_placed d false k w ts own within room placed = (((own, within, room), placed), omega (arith, room))

wait_placed : (d : ℕ) (mark : Option ℕ) (keep : Bool) (k : ℕ) (w : Work) (ts : List Task) → IsPlacedWork d w → k < d
    → length ts + 1 ≤ 6 * (k + 1) → IsPlaced d ts
    → IsPlaced d (wait_tasks mark keep k w ts) × (length (wait_tasks mark keep k w ts) ≤ 6 * (k + 1))
wait_placed d None keep k w ts own within room placed = select_placed d keep k w ts own within room placed
wait_placed d (Some m) keep k w ts own within room placed = (((own, within, room), placed), omega (arith, room))

module _ (c c1 : RouteView) (k : ℕ) (w next : Work) (parent : Bool) (mark : Option ℕ) (keep : Bool) (ts new : List Task)
    (p : IsPlanned c (Enter k w ∷ ts))
    (within : k < length c.path) (own : IsPlacedWork (length c.path) next) (same : c1 ≡ c)
    (stack : new ≡ crossed_tasks parent mark keep k w next ts) where
  waits : IsPlaced (length c.path) (wait_tasks mark keep k w ts) × (length (wait_tasks mark keep k w ts) ≤ 6 * (k + 1))
  waits = wait_placed (length c.path) mark keep k w ts p.placed.0.0 within (omega (arith, p.placed.0.2)) p.placed.1

  stack_by : (t : Bool) → parent ≡ t
      → new ≡ cond t (wait_tasks mark keep k w ts) (Lock (k + 1) (k + 1) next ∷ wait_tasks mark keep k w ts)
  stack_by t e = stack ∙ ap (λ (x : Bool). cond x (wait_tasks mark keep k w ts)
      (Lock (k + 1) (k + 1) next ∷ wait_tasks mark keep k w ts)) e

  pub planned-next : parent ≡ true → IsPlanned c1 (Enter (k + 1) next ∷ new)
  planned-next e =
      subst (λ (x : RouteView). IsPlanned x (Enter (k + 1) next ∷ new)) (sym same)
      (subst (λ (x : List Task). IsPlanned c (Enter (k + 1) next ∷ x)) (sym (stack_by true e))
      (record { deep = p.deep; narrow = p.narrow; placed = ((own, omega (arith, within), omega (arith, waits.1)), waits.0) }))

  pub planned-lock : parent ≡ false → IsPlanned c1 new
  planned-lock e =
      subst (λ (x : RouteView). IsPlanned x new) (sym same)
      (subst (λ (x : List Task). IsPlanned c x) (sym (stack_by false e))
      (record {
        deep = p.deep;
        narrow = p.narrow;
        placed = ((own, omega arith, omega (arith, within), omega (arith, waits.1)), waits.0);
      }))

-- after a close, what comes first stands over what waits for it
module _ (c c1 : RouteView) (k : ℕ) (w next : Work) (keep : Bool) (ts new : List Task) (p : IsPlanned c (Pass k w ∷ ts))
    (own : IsPlacedWork (length c.path) next) (same : c1 ≡ c) (stack : new ≡ select_tasks keep k w ts) where
  below : IsPlaced (length c.path) (select_tasks keep k w ts) × (length (select_tasks keep k w ts) ≤ 6 * (k + 1))
  below = select_placed (length c.path) keep k w ts p.placed.0.0 p.placed.0.1 p.placed.0.2 p.placed.1

  pub planned-pass : (parent : Bool) → IsPlanned c1 (part_task parent (k + 1) next ∷ new)
  planned-pass parent =
      subst (λ (x : RouteView). IsPlanned x (part_task parent (k + 1) next ∷ new)) (sym same)
      (subst (λ (x : List Task). IsPlanned c (part_task parent (k + 1) next ∷ x)) (sym stack) (by parent))
    where
      by : (t : Bool) → IsPlanned c (part_task t (k + 1) next ∷ select_tasks keep k w ts)
      by true = record {
        deep = p.deep;
        narrow = p.narrow;
        placed = ((own, omega (arith, p.placed.0.1), omega (arith, below.1)), below.0);
      }
      by false = record {
        deep = p.deep;
        narrow = p.narrow;
        placed = ((own, omega arith, omega (arith, p.placed.0.1), omega (arith, below.1)), below.0);
      }

-- the task on the top, which is dropped, stands over what is left
module _ (c : RouteView) (stack left : List Task) (top task : Task) (on : stack ≡ top ∷ drop 1 stack) (is : top ≡ task)
    (same : left ≡ drop 1 stack) where
  over_left : stack ≡ task ∷ left
  over_left = on ∙ ap (λ (t : Task). t ∷ drop 1 stack) is ∙ ap (λ (ts : List Task). task ∷ ts) (sym same)

  pub top-planned : IsPlanned c stack → IsPlanned c (task ∷ left)
  top-planned p = subst (λ (ts : List Task). IsPlanned c ts) over_left p

  pub top-tree : (out : JobOutcome) → tree_of c (task ∷ left) out ≡ tree_of c stack out
  top-tree out = sym (ap (λ (ts : List Task). tree_of c ts out) over_left)
