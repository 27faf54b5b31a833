-- The tree law: the whole walk of a transfer runs. The inductions go over the locks, and over the hops.
use Rattle.bus_laws.proofs.Cited.{◌≡◌, ℕ, suc, ◌<◌, ◌≤◌, Bool, true, false, cond, not, ◌&&◌, List, [], ◌∷◌, length, Option, Some, None, ltb}
use Rattle.bus_laws.proofs.Cited.{refl, sym, ◌∙◌, ap, subst, ◌⊎◌, inl, inr, arith, list_any, ltb-true, eqb_tells, LockId, Errno, Msg}
use Rattle.bus_laws.proofs.Cited.{BoardView, TransferView, Hop, hops, buses, root_of, locks_of, Crosses, IsAmongHops, IsTree, messages_of}
use Rattle.bus_laws.proofs.Cited.{refusal, grant_of, is_busy, Mark, Job, Call, Select, SwitchOff, JobOutcome, Note, WalkTree, Ends, Then}
use Rattle.bus_laws.proofs.Cited.{Free, is_line, Slots, At, Doer, plain, locked, part, inner, behind, at_bus, walk_by, walk_for, rank}
use Rattle.bus_laws.proofs.Cited.{IsOpenOn, InLocks, IsRest, RestOf, LeavesShut, taken_slots, Owns, MayFail, Runs, LinesAreLocked}
use Rattle.bus_laws.proofs.Cited.{changed_at}
use Rattle.i2c_base.specs.declared.ids.LockId.TheVariants as lock
use Rattle.i2c_base.specs.declared.errno.Errno.TheVariants as errno
use Rattle.i2c_spec.specs.Flat.{is_plain, is_smbus_only}
use Rattle.bus_laws.proofs.tree.Slots.{changed-same, changed-other}
use Rattle.bus_laws.proofs.tree.Doers.{Before, After, DoerRuns}
use Rattle.bus_laws.proofs.tree.Path.{job_after-along, finds_along, fail_along, own_crosses, locks_cross, bus_runs, line_runs, ground}
use Rattle.bus_laws.proofs.tree.Path.{sub_locks}
use Rattle.bus_laws.proofs.tree.Falls.{Falls, floor_after, gathered, is_below_all, in_gathered, of_gathered, path_falls, path_floor}
use Rattle.bus_laws.proofs.tree.Behind.{behind-runs}

-- taking a lock of the path changes what is known on the path alone
taken-off : (hs : List Hop) (l : LockId) (s : At) (v : Slots) → ((p : ℕ) → l ≡ lock.Mux p → Crosses p hs) → (p : ℕ) → (Crosses p hs → ⊥)
    → taken_slots l s v p ≡ v p
taken-off hs (lock.Mux q) s v crossing p off = changed-other v q p s (λ e. off (subst (λ (i : ℕ). Crosses i hs) (sym e) (crossing q refl)))
taken-off hs (lock.Bus r) s v crossing p off = refl

taken_rest : (b : BoardView) (l : LockId) (s : At) (v : Slots) (got : List LockId) → RestOf b l s
    → ((p : ℕ) → InLocks (lock.Mux p) got → IsRest b p (v p)) → (p : ℕ) → InLocks (lock.Mux p) (l ∷ got) → IsRest b p (taken_slots l s v p)
taken_rest b (lock.Bus r) s v got at_rest rest p i =
    elim i [ inl e ↦ absurd (let f : lock.Mux p ≡ lock.Bus r = e in cc) | inr more ↦ rest p more ]
taken_rest b (lock.Mux q) s v got at_rest rest p i =
    elim (eqb_tells p q) [
      | inl h ↦ subst (λ (x : At). IsRest b p x) (sym (ap (λ (j : ℕ). changed_at v q s j) h.1 ∙ changed-same v q s))
          (subst (λ (j : ℕ). IsRest b j s) (sym h.1) at_rest)
      | inr h ↦ subst (λ (x : At). IsRest b p x) (sym (changed-other v q p s h.1))
          (elim i [ inl e ↦ absurd (h.1 (let f : lock.Mux p ≡ lock.Mux q = e in cc)) | inr more ↦ rest p more ])
    ]

leaves_shut : (b : BoardView) (l : LockId) (w : Slots) → ((p : ℕ) → l ≡ lock.Mux p → IsRest b p (w p)) → LeavesShut b l w
leaves_shut b (lock.Bus r) w rest = tt
leaves_shut b (lock.Mux p) w rest = rest p refl

more_owns : (l : LockId) (j : Job) (marks : List Mark) (held : List LockId) → Owns j marks held → Owns j marks (l ∷ held)
more_owns l (Call bus ms) marks held o = tt
more_owns l (Select h) marks held o = (inr o.0, o.1)
more_owns l (SwitchOff off) marks held o = (inr o.0, o.1)

more_fail : (b : BoardView) (l : LockId) (held : List LockId) (v : Slots) (ms : List Mark) → MayFail b ms held v → MayFail b ms (l ∷ held) v
more_fail b l held v [] f = tt
more_fail b l held v (m ∷ ms) f =
    (record { locked = inr f.0.locked; at_home = f.0.at_home; forgets = f.0.forgets }, more_fail b l held v ms f.1)

module _ (b : BoardView) (whose : TransferView) (root : ℕ) (hs : List Hop) where
  -- a lock is taken: all that was needed is still there
  taken_before : (l : LockId) (got : List LockId) (floor : ℕ) (job : Job) (marks : List Mark) (held : List LockId) (v : Slots) (s : At)
      → rank b l < floor → ((p : ℕ) → l ≡ lock.Mux p → Crosses p hs) → RestOf b l s
      → Before b whose root hs got floor job marks held v
      → Before b whose root hs (l ∷ got) (rank b l) job marks (l ∷ held) (taken_slots l s v)
  taken_before l got floor job marks held v s below crossing at_rest before =
      let off : (p : ℕ) → (Crosses p hs → ⊥) → v p ≡ taken_slots l s v p = λ p o. sym (taken-off hs l s v crossing p o) in
      record {
        locks = λ k i. elim i [ inl e ↦ inl e | inr more ↦ inr (before.locks k more) ];
        ranks = λ k i. elim i [
          | inl e ↦ subst (λ (x : LockId). rank b l ≤ rank b x) (sym e) (omega arith)
          | inr more ↦ (let floor_k : floor ≤ rank b k = before.ranks k more in omega arith)
        ];
        rest = taken_rest b l s v got at_rest before.rest;
        finds = finds_along b job v (taken_slots l s v) (λ p own. off p (own_crosses job hs p before.owns_off own)) before.finds;
        owns = more_owns l job marks held before.owns;
        owns_off = before.owns_off;
        way = λ g a. elim (before.way g a) [
          | inl still ↦ inl still
          | inr passed ↦ inr (record {
            selected = subst (λ (x : At). IsOpenOn b g x) (sym (taken-off hs l s v crossing g.on passed.off)) passed.selected;
            locked = inr passed.locked;
            off = passed.off;
          })
        ];
        same_root = before.same_root;
        may_fail = more_fail b l held (taken_slots l s v) marks
            (fail_along b held hs v (taken_slots l s v) marks off before.marks_off before.may_fail);
        marks_off = before.marks_off;
        call_unmarked = before.call_unmarked;
        granted = before.granted;
        line_rooted = before.line_rooted;
      }

  -- the induction over the locks
  take_runs : (ls got : List LockId) (floor : ℕ) (on : Doer) → Falls b floor ls → ((p : ℕ) → InLocks (lock.Mux p) ls → Crosses p hs)
      → DoerRuns b whose root hs (gathered ls got) (floor_after b floor ls) on → DoerRuns b whose root hs got floor (locked ls on)
  take_runs [] got floor on falls crossing sub = sub
  take_runs (l ∷ ls) got floor on falls crossing sub =
      λ job note k held v before goes_on. (
        is_below_all b l held (λ j i. let floor_j : floor ≤ rank b j = before.ranks j i in omega (arith, falls.0)),
        λ s at_rest.
            take_runs ls (l ∷ got) (rank b l) on falls.1 (λ p i. crossing p (inr i)) sub job note (λ out. Then (Free l) plain (λ o. k out))
            (l ∷ held) (taken_slots l s v)
            (taken_before l got floor job note.marks held v s falls.0 (λ p e. crossing p (inl (sym e))) at_rest before)
            (λ o w after. (
              held,
              refl,
              leaves_shut b l w (λ p e. after.rest p (inl (sym e))),
              goes_on o w (record {
                off = λ p off. after.off p off
                    ∙ job_after-along job note.marks o (taken_slots l s v) v p (taken-off hs l s v (λ q e. crossing q (inl (sym e))) p off);
                rest = λ p i. after.rest p (inr i);
                can = after.can;
              }),
            )),
      )

  -- only who is among the locks counts
  same_locks : (ls ms : List LockId) (floor : ℕ) (on : Doer) → ((l : LockId) → InLocks l ls → InLocks l ms)
      → ((l : LockId) → InLocks l ms → InLocks l ls)
      → DoerRuns b whose root hs ls floor on → DoerRuns b whose root hs ms floor on
  same_locks ls ms floor on there back sub =
      λ job note k held v before goes_on.
      sub job note k held v
      (record {
        locks = λ l i. before.locks l (there l i);
        ranks = before.ranks;
        rest = λ p i. before.rest p (there (lock.Mux p) i);
        finds = before.finds;
        owns = before.owns;
        owns_off = before.owns_off;
        way = before.way;
        same_root = before.same_root;
        may_fail = before.may_fail;
        marks_off = before.marks_off;
        call_unmarked = before.call_unmarked;
        granted = before.granted;
        line_rooted = before.line_rooted;
      })
      (λ o w after. goes_on o w (record { off = after.off; rest = λ p i. after.rest p (back (lock.Mux p) i); can = after.can }))

only_front : (ls : List LockId) (l : LockId) → InLocks l ls ⊎ InLocks l [] → InLocks l ls
only_front ls l i = elim i [ inl j ↦ j | inr none ↦ absurd none ]

-- a job between the locks of its path runs where the job itself does
locked_runs : (b : BoardView) (whose : TransferView) → IsTree b → (root : ℕ) (hs : List Hop) (s : ℕ) (on : Doer) → hops b s ≡ hs
    → DoerRuns b whose root hs (locks_of root hs) (ground hs) on
    → DoerRuns b whose root hs [] (suc (length hs)) (locked (locks_of root hs) on)
locked_runs b whose tree root hs s on at sub =
    take_runs b whose root hs (locks_of root hs) [] (suc (length hs)) on
    (path_falls b tree root hs s (suc (length hs)) at (omega arith))
    (λ p i. locks_cross root hs p i)
    (subst (λ (f : ℕ). DoerRuns b whose root hs (gathered (locks_of root hs) []) f on)
    (sym (path_floor b tree root hs s (suc (length hs)) at))
    (same_locks b whose root hs (locks_of root hs) (gathered (locks_of root hs) []) (ground hs) on
    (λ l i. in_gathered (locks_of root hs) [] l (inl i))
    (λ l i. only_front (locks_of root hs) l (of_gathered (locks_of root hs) [] l i)) sub))

part_runs : (b : BoardView) (whose : TransferView) → IsTree b → (root : ℕ) (hs : List Hop) (s : ℕ) (on : Doer) → hops b s ≡ hs
    → DoerRuns b whose root hs (locks_of root hs) (ground hs) on
    → (t : Bool) → DoerRuns b whose root hs (cond t (locks_of root hs) []) (cond t (ground hs) (suc (length hs)))
    (part t (locks_of root hs) on)
part_runs b whose tree root hs s on at sub true = sub
part_runs b whose tree root hs s on at sub false = locked_runs b whose tree root hs s on at sub

-- the induction over the hops
inner_runs : (b : BoardView) (whose : TransferView) → IsTree b → LinesAreLocked b → (root : ℕ) (hs : List Hop) (s : ℕ) → hops b s ≡ hs
    → s < buses b → root_of b s ≡ root
    → DoerRuns b whose root hs (locks_of root hs) (ground hs) (inner b root hs)
inner_runs b whose tree lines root [] s at there rooted =
    λ job note k held v before goes_on. bus_runs b whose tree root 0 job note k held v (is_line job) refl before goes_on
inner_runs b whose tree lines root (h ∷ hs) s at there rooted =
    λ job note k held v before goes_on.
    by_line job note k held v before goes_on (is_line job) refl
    (part_runs b whose tree root hs h.on (inner b root hs) (tree.tail s h hs at)
    (inner_runs b whose tree lines root hs h.on (tree.tail s h hs at) (let before : h.on < s = (tree.leads s h hs at).1 in
    omega (arith, before, there))
    (tree.root_same s h (subst (λ (xs : List Hop). IsAmongHops h xs) (sym at) (inl refl)) ∙ rooted))
    h.parent)
  where
    by_line : (job : Job) (note : Note) (k : JobOutcome → WalkTree) (held : List LockId) (v : Slots)
        → Before b whose root (h ∷ hs) (locks_of root (h ∷ hs)) (ground (h ∷ hs)) job note.marks held v
        → ((o : JobOutcome) (w : Slots) → After b (h ∷ hs) (locks_of root (h ∷ hs)) job note.marks v o w → Runs b whose held w (k o))
        → (t : Bool) → is_line job ≡ t
        → DoerRuns b whose root hs (sub_locks root h hs) (ground (h ∷ hs)) (part h.parent (locks_of root hs) (inner b root hs))
        → Runs b whose held v (inner b root (h ∷ hs) job note k)
    by_line job note k held v before goes_on true l sub =
        subst (λ (t : Bool). Runs b whose held v
        (cond t (at_bus job note k) (behind b h (part h.parent (locks_of root hs) (inner b root hs)) job note k))) (sym l)
        (line_runs b whose root (h ∷ hs) (locks_of root (h ∷ hs)) (ground (h ∷ hs)) (λ p i. locks_cross root (h ∷ hs) p i)
        (λ x i. i) job note k held v l before goes_on)
    by_line job note k held v before goes_on false l sub =
        subst (λ (t : Bool). Runs b whose held v
        (cond t (at_bus job note k) (behind b h (part h.parent (locks_of root hs) (inner b root hs)) job note k))) (sym l)
        (behind-runs b whose tree lines root h hs s (ground (h ∷ hs))
        (part h.parent (locks_of root hs) (inner b root hs)) at there rooted sub job note k held v l before goes_on)

-- a transfer that isn't refused stands on a bus that is there, and names no busy address
not_refused : (x y z : Bool) → cond (not x) (Some errno.Enodev) (cond y (Some errno.Eopnotsupp) (cond z (Some errno.Ebusy) None)) ≡ None
    → (x ≡ true) × (z ≡ false)
not_refused true false false e = (refl, refl)
not_refused true false true e = absurd (let f : Some errno.Ebusy ≡ None = e in cc)
not_refused true true z e = absurd (let f : Some errno.Eopnotsupp ≡ None = e in cc)
not_refused false y z e = absurd (let f : Some errno.Enodev ≡ None = e in cc)

pub refusal-none : (b : BoardView) (t : TransferView) → refusal b t ≡ None
    → (ltb t.bus (buses b) ≡ true) × (list_any (λ (m : Msg). is_busy (grant_of b t.bus m.addr t.force)) t.msgs ≡ false)
refusal-none b t e =
    not_refused (ltb t.bus (buses b)) (is_plain t.kind && is_smbus_only b (root_of b t.bus))
    (list_any (λ (m : Msg). is_busy (grant_of b t.bus m.addr t.force)) t.msgs) e

-- the whole walk of a transfer
walk_by-runs : (b : BoardView) (t : TransferView) → IsTree b → LinesAreLocked b → 0 < length t.msgs → (v : Slots) (r : Option Errno)
    → refusal b t ≡ r → Runs b t [] v (walk_by b t r)
walk_by-runs b t tree lines some v (Some e) refused = refl
walk_by-runs b t tree lines some v None refused =
    locked_runs b t tree (root_of b t.bus) (hops b t.bus) t.bus (inner b (root_of b t.bus) (hops b t.bus)) refl
    (inner_runs b t tree lines (root_of b t.bus) (hops b t.bus) t.bus refl (ltb-true t.bus (buses b) (refusal-none b t refused).0) refl)
    (Call t.bus (messages_of t)) plain (λ o. Ends) [] v
    (record {
      locks = λ l i. i;
      ranks = λ l i. absurd i;
      rest = λ p i. absurd i;
      finds = tt;
      owns = tt;
      owns_off = tt;
      way = λ g a. inl a;
      same_root = refl;
      may_fail = tt;
      marks_off = tt;
      call_unmarked = refl;
      granted = record { same_bus = refl; same_messages = refl; not_refused = refused; some_message = some };
      line_rooted = λ l. absurd (let f : false ≡ true = l in cc);
    })
    (λ o w after. refl)

pub walk-runs : (b : BoardView) (t : TransferView) → IsTree b → LinesAreLocked b → 0 < length t.msgs → (v : Slots)
    → Runs b t [] v (walk_for b t)
walk-runs b t tree lines some v = walk_by-runs b t tree lines some v (refusal b t) refl
