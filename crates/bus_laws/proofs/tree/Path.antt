-- A job at the end of a path of hops. The induction goes over the hops.
use Rattle.bus_laws.proofs.Cited.{◌≡◌, ℕ, zero, suc, ◌-◌, Bool, true, false, cond, List, [], ◌∷◌, length, Some, None, refl, sym, ap, subst}
use Rattle.bus_laws.proofs.Cited.{inl, inr, AllByRecursion, LockId, line_row, BoardView, TransferView, Hop, hops, root_of, locks_of}
use Rattle.bus_laws.proofs.Cited.{Crosses, IsAmongHops, IsTree, Mark, Job, Call, Select, SwitchOff, off_bus, off_mux, Shift, ActOutcome}
use Rattle.bus_laws.proofs.Cited.{Passed, Sent, Lined, JobOutcome, Good, Refused, Unsent, Failed, Note, WalkTree, Then, job_bus, is_line}
use Rattle.bus_laws.proofs.Cited.{is_arbitrator, more_of, Slots, At, MuxSlot, Clean, turned, set_marks, after_job, over, messages, at_bus}
use Rattle.bus_laws.proofs.Cited.{IsOpenOn, InLocks, IsRest, CanShift, Finds, FindsOpen, FindsSelect, IsUnmarked, IsOfMux, MayFail, Runs}
use Rattle.i2c_base.specs.declared.ids.LockId.TheVariants as lock
use Rattle.bus_laws.proofs.tree.Slots.{turned-other, turned-along, set_marks-other, set_marks-along}
use Rattle.bus_laws.proofs.tree.Doers.{IsFresh, Responds, CanJob, job_after, OwnsOff, FindsFirst, CallUnmarked, Before, After}
use Rattle.bus_laws.proofs.tree.Base.{over-runs, call_runs, select_runs, off_runs}

-- a job's own bus; a call has none
abbrev pub OwnIs : Job → ℕ → Type 0
OwnIs (Call bus messages) p = ⊥
OwnIs (Select h) p = p ≡ h.on
OwnIs (SwitchOff off) p = p ≡ off_bus off

-- off its own bus, and where it marks nothing, a job leaves what was known
pub job_after-off : (job : Job) (marks : List Mark) (o : JobOutcome) (v : Slots) (p : ℕ) → (OwnIs job p → ⊥) → IsUnmarked p marks
    → job_after job marks o v p ≡ v p
job_after-off (Call bus ms) marks o v p own un = refl
job_after-off (Select h) marks Good v p own un = turned-other v h.on h.mux p Clean (Some h.channel) own
job_after-off (Select h) marks Refused v p own un = turned-other v h.on h.mux p Clean None own
job_after-off (Select h) marks Unsent v p own un = refl
job_after-off (Select h) marks Failed v p own un = set_marks-other marks v p un
job_after-off (SwitchOff off) marks Good v p own un = turned-other v (off_bus off) (off_mux off) p Clean None own
job_after-off (SwitchOff off) marks Refused v p own un = turned-other v (off_bus off) (off_mux off) p Clean None own
job_after-off (SwitchOff off) marks Unsent v p own un = refl
job_after-off (SwitchOff off) marks Failed v p own un = set_marks-other marks v p un

-- what a job leaves at a bus comes from that bus
pub job_after-along : (job : Job) (marks : List Mark) (o : JobOutcome) (v w : Slots) (p : ℕ) → v p ≡ w p
    → job_after job marks o v p ≡ job_after job marks o w p
job_after-along (Call bus ms) marks o v w p e = e
job_after-along (Select h) marks Good v w p e = turned-along v w h.on h.mux p Clean (Some h.channel) e
job_after-along (Select h) marks Refused v w p e = turned-along v w h.on h.mux p Clean None e
job_after-along (Select h) marks Unsent v w p e = e
job_after-along (Select h) marks Failed v w p e = set_marks-along marks v w p e
job_after-along (SwitchOff off) marks Good v w p e = turned-along v w (off_bus off) (off_mux off) p Clean None e
job_after-along (SwitchOff off) marks Refused v w p e = turned-along v w (off_bus off) (off_mux off) p Clean None e
job_after-along (SwitchOff off) marks Unsent v w p e = e
job_after-along (SwitchOff off) marks Failed v w p e = set_marks-along marks v w p e

pub job_after-unsent : (job : Job) (marks : List Mark) (v : Slots) (p : ℕ) → job_after job marks Unsent v p ≡ v p
job_after-unsent (Call bus ms) marks v p = refl
job_after-unsent (Select h) marks v p = refl
job_after-unsent (SwitchOff off) marks v p = refl

pub job_after-failed : (job : Job) (marks : List Mark) (v : Slots) (p : ℕ) → CallUnmarked job marks
    → job_after job marks Failed v p ≡ set_marks marks v p
job_after-failed (Call bus ms) marks v p un = ap (λ (ms : List Mark). set_marks ms v p) (sym un)
job_after-failed (Select h) marks v p un = refl
job_after-failed (SwitchOff off) marks v p un = refl

-- what a job finds on its own bus, and what its marks forget, moves along equal knowledge
pub finds_along : (b : BoardView) (job : Job) (v w : Slots) → ((p : ℕ) → OwnIs job p → v p ≡ w p) → FindsFirst b job v → FindsFirst b job w
finds_along b (Call bus ms) v w same f = tt
finds_along b (Select h) v w same f = (subst (λ (x : At). IsFresh h x) (same h.on refl) f.0, f.1, f.2)
finds_along b (SwitchOff off) v w same f = (subst (λ (x : At). FindsOpen off x.slot) (same (off_bus off) refl) f.0, f.1, f.2)

pub fail_along : (b : BoardView) (held : List LockId) (hs : List Hop) (v w : Slots) (ms : List Mark)
    → ((p : ℕ) → (Crosses p hs → ⊥) → v p ≡ w p) → AllByRecursion (λ (m : Mark). Crosses m.on hs → ⊥) ms
    → MayFail b ms held v → MayFail b ms held w
fail_along b held hs v w [] same off fail = tt
fail_along b held hs v w (m ∷ ms) same off fail = (
  record {
    locked = fail.0.locked;
    at_home = fail.0.at_home;
    forgets = subst (λ (x : At). IsOfMux m.mux x.slot) (same m.on off.0) fail.0.forgets;
  },
  fail_along b held hs v w ms same off.1 fail.1,
)

pub unmarked_off : (hs : List Hop) (p : ℕ) (ms : List Mark) → Crosses p hs → AllByRecursion (λ (m : Mark). Crosses m.on hs → ⊥) ms
    → IsUnmarked p ms
unmarked_off hs p [] c off = tt
unmarked_off hs p (m ∷ ms) c off = (λ e. off.0 (subst (λ (q : ℕ). Crosses q hs) e c), unmarked_off hs p ms c off.1)

pub marks_tail : (h : Hop) (hs : List Hop) (ms : List Mark) → AllByRecursion (λ (m : Mark). Crosses m.on (h ∷ hs) → ⊥) ms
    → AllByRecursion (λ (m : Mark). Crosses m.on hs → ⊥) ms
marks_tail h hs [] off = tt
marks_tail h hs (m ∷ ms) off = (λ c. off.0 (inr c), marks_tail h hs ms off.1)

pub owns_off_tail : (job : Job) (h : Hop) (hs : List Hop) → OwnsOff job (h ∷ hs) → OwnsOff job hs
owns_off_tail (Call bus ms) h hs off = tt
owns_off_tail (Select g) h hs off = λ c. off (inr c)
owns_off_tail (SwitchOff x) h hs off = λ c. off (inr c)

pub own_crosses : (job : Job) (hs : List Hop) (p : ℕ) → OwnsOff job hs → OwnIs job p → Crosses p hs → ⊥
own_crosses (Call bus ms) hs p off own c = own
own_crosses (Select g) hs p off own c = off (subst (λ (q : ℕ). Crosses q hs) own c)
own_crosses (SwitchOff x) hs p off own c = off (subst (λ (q : ℕ). Crosses q hs) own c)

-- a job that can have this outcome at the end of some hops can have it after one more that lets it through
pub can_more : (b : BoardView) (h : Hop) (hs : List Hop) (job : Job) (o : JobOutcome) → Responds b h → CanJob b hs job o
    → CanJob b (h ∷ hs) job o
can_more b h hs job Good r can = elim can [ inl l ↦ inl l | inr s ↦ inr ((r, s.0), s.1) ]
can_more b h hs job Refused r can = (can.0, (r, can.1), can.2)
can_more b h hs job Unsent r can = (can.0, λ all. can.1 all.1)
can_more b h hs job Failed r can = tt

-- the least rank of the locks of a path
abbrev pub ground : List Hop → ℕ
ground [] = 0
ground (h ∷ hs) = cond h.parent (ground hs) (suc (length hs))

abbrev pub sub_locks : ℕ → Hop → List Hop → List LockId
sub_locks root h hs = cond h.parent (locks_of root hs) []

-- the locks of a path with parent-locked muxes alone have the root's
pub bus_among : (root : ℕ) (hs : List Hop) → ((g : Hop) → IsAmongHops g hs → g.parent ≡ true) → InLocks (lock.Bus root) (locks_of root hs)
bus_among root [] all = inl refl
bus_among root (h ∷ hs) all =
    inr (subst (λ (t : Bool). InLocks (lock.Bus root) (cond t (locks_of root hs) [])) (sym (all h (inl refl)))
    (bus_among root hs (λ g a. all g (inr a))))

-- a mux lock of a path is of a bus that the path crosses
if_locked : (p : ℕ) (ls : List LockId) (hs : List Hop) (t : Bool) → (InLocks (lock.Mux p) ls → Crosses p hs)
    → InLocks (lock.Mux p) (cond t ls []) → Crosses p hs
if_locked p ls hs true f i = f i
if_locked p ls hs false f i = absurd i

pub locks_cross : (root : ℕ) (hs : List Hop) (p : ℕ) → InLocks (lock.Mux p) (locks_of root hs) → Crosses p hs
locks_cross root [] p i = elim i [ inl e ↦ (let f : lock.Mux p ≡ lock.Bus root = e in cc) | inr more ↦ absurd more ]
locks_cross root (h ∷ hs) p i =
    elim i [
      | inl e ↦ inl (let f : lock.Mux p ≡ lock.Mux h.on = e in cc)
      | inr more ↦ inr (if_locked p (locks_of root hs) hs h.parent (locks_cross root hs p) more)
    ]

-- LINES: one step, which needs the root's lock and no way

line_finds : (b : BoardView) (job : Job) (v : Slots) → is_line job ≡ true → FindsFirst b job v → Finds b job zero v
line_finds b (Call bus ms) v l f = tt
line_finds b (Select h) v l f =
    (subst (λ (t : Bool). FindsSelect t h zero (v h.on)) (sym (line_row h.kind l).asks) (refl, f.0.0), f.1, f.2)
line_finds b (SwitchOff off) v l f = f

module _ (b : BoardView) (whose : TransferView) (root : ℕ) (hs : List Hop) (ls : List LockId) (floor : ℕ)
    (crossing : (p : ℕ) → InLocks (lock.Mux p) ls → Crosses p hs) where
  -- a line step leaves the path as it was
  line_done : (job : Job) (note : Note) (k : JobOutcome → WalkTree) (held : List LockId) (v : Slots)
      → is_line job ≡ true → Before b whose root hs ls floor job note.marks held v
      → ((o : JobOutcome) (w : Slots) → After b hs ls job note.marks v o w → Runs b whose held w (k o))
      → (o : JobOutcome) → CanJob b hs job o → Runs b whose held (job_after job note.marks o v) (k o)
  line_done job note k held v l before goes_on o can =
      goes_on o (job_after job note.marks o v) (record {
        off = λ p off. refl;
        rest = λ p i. subst (λ (x : At). IsRest b p x)
            (sym (job_after-off job note.marks o v p (λ own. own_crosses job hs p before.owns_off own (crossing p i))
            (unmarked_off hs p note.marks (crossing p i) before.marks_off)))
            (before.rest p i);
        can = can;
      })

  line_out : (job : Job) (note : Note) (k : JobOutcome → WalkTree) (held : List LockId) (v : Slots)
      → is_line job ≡ true → Before b whose root hs ls floor job note.marks held v
      → ((o : JobOutcome) (w : Slots) → After b hs ls job note.marks v o w → Runs b whose held w (k o))
      → (out : ActOutcome) → CanShift b job out → Runs b whose held (after_job job zero note.marks out v) (over job zero note k out)
  line_out (Call bus ms) note k held v l before goes_on out can = (let f : false ≡ true = l in cc)
  line_out (Select h) note k held v l before goes_on (Lined true) can =
      over-runs b whose held (set_marks note.marks v) (Select h) zero note k (Lined true)
      (line_done (Select h) note k held v l before goes_on Failed tt)
  line_out (Select h) note k held v l before goes_on (Lined false) can =
      over-runs b whose held (turned v h.on h.mux Clean (Some h.channel)) (Select h) zero note k (Lined false)
      (line_done (Select h) note k held v l before goes_on Good (inl l))
  line_out (Select h) note k held v l before goes_on (Sent e bytes) can = absurd can
  line_out (Select h) note k held v l before goes_on Passed can = absurd can
  line_out (SwitchOff off) note k held v l before goes_on (Lined true) can =
      over-runs b whose held (set_marks note.marks v) (SwitchOff off) zero note k (Lined true)
      (line_done (SwitchOff off) note k held v l before goes_on Failed tt)
  line_out (SwitchOff off) note k held v l before goes_on (Lined false) can =
      over-runs b whose held (turned v (off_bus off) (off_mux off) Clean None) (SwitchOff off) zero note k (Lined false)
      (line_done (SwitchOff off) note k held v l before goes_on Good (inl l))
  line_out (SwitchOff off) note k held v l before goes_on (Sent e bytes) can = absurd can
  line_out (SwitchOff off) note k held v l before goes_on Passed can = absurd can

  pub line_runs : ((l : LockId) → InLocks l (locks_of root hs) → InLocks l ls)
      → (job : Job) (note : Note) (k : JobOutcome → WalkTree) (held : List LockId) (v : Slots)
      → is_line job ≡ true → Before b whose root hs ls floor job note.marks held v
      → ((o : JobOutcome) (w : Slots) → After b hs ls job note.marks v o w → Runs b whose held w (k o))
      → Runs b whose held v (at_bus job note k)
  line_runs all job note k held v l before goes_on =
      subst (λ (t : Bool). Runs b whose held v (cond t (Then (Shift job) note (over job zero note k)) (messages (more_of job) job note k)))
      (sym l) (
        record {
          by_line = l;
          rooted = subst (λ (r : ℕ). InLocks (lock.Bus r) held) (sym before.same_root)
              (before.locks (lock.Bus root) (all (lock.Bus root) (before.line_rooted l)));
          finds = line_finds b job v l before.finds;
          owns = before.owns;
          may_fail = before.may_fail;
        },
        line_out job note k held v l before goes_on,
      )

-- MESSAGES: at the root itself

arrived : (b : BoardView) (whose : TransferView) (root floor : ℕ) (job : Job) (marks : List Mark) (held : List LockId) (v : Slots)
    → Before b whose root [] (lock.Bus root ∷ []) floor job marks held v
    → (g : Hop) → IsAmongHops g (hops b (job_bus job)) → IsOpenOn b g (v g.on) × InLocks (lock.Mux g.on) held
arrived b whose root floor job marks held v before g a =
    elim (before.way g a) [ inl none ↦ absurd none | inr passed ↦ (passed.selected, passed.locked) ]

bus_held : (b : BoardView) (whose : TransferView) (root floor : ℕ) (job : Job) (marks : List Mark) (held : List LockId) (v : Slots)
    → Before b whose root [] (lock.Bus root ∷ []) floor job marks held v → InLocks (lock.Bus (root_of b (job_bus job))) held
bus_held b whose root floor job marks held v before =
    subst (λ (r : ℕ). InLocks (lock.Bus r) held) (sym before.same_root) (before.locks (lock.Bus root) (inl refl))

pub own_shut : (h : Hop) (s : MuxSlot) → s ≡ Clean → IsOfMux h.mux s
own_shut h s e = subst (λ (x : MuxSlot). IsOfMux h.mux x) (sym e) tt

-- the messages of a job whose bus is the root's, or is reached
root_runs : (b : BoardView) (whose : TransferView) → IsTree b
    → (root floor : ℕ) (job : Job) (note : Note) (k : JobOutcome → WalkTree) (held : List LockId) (v : Slots)
    → is_line job ≡ false → Before b whose root [] (lock.Bus root ∷ []) floor job note.marks held v
    → ((o : JobOutcome) (w : Slots) → After b [] (lock.Bus root ∷ []) job note.marks v o w → Runs b whose held w (k o))
    → Runs b whose held v (messages (more_of job) job note k)
root_runs b whose tree root floor (Call bus ms) note k held v l before goes_on =
    call_runs b whose bus ms note k held v
    (λ o can. goes_on o v (record { off = λ p off. refl; rest = λ p i. before.rest p i; can = can }))
    (record {
      reached = arrived b whose root floor (Call bus ms) note.marks held v before;
      rooted = bus_held b whose root floor (Call bus ms) note.marks held v before;
      finds = tt;
      owns = tt;
      may_fail = before.may_fail;
      granted = before.granted;
      by_message = refl;
    })
    (length ms - 1)
root_runs b whose tree root floor (Select h) note k held v l before goes_on =
    select_runs b whose tree root h note k held v
    (arrived b whose root floor (Select h) note.marks held v before)
    (bus_held b whose root floor (Select h) note.marks held v before)
    before.owns before.finds.1 before.finds.2 before.may_fail l goes_on
    (is_arbitrator h.kind) refl (own_shut h (v h.on).slot before.finds.0.0) before.finds.0.0 before.finds.0.1
root_runs b whose tree root floor (SwitchOff off) note k held v l before goes_on =
    off_runs b whose root off note k held v l goes_on
    (record {
      reached = arrived b whose root floor (SwitchOff off) note.marks held v before;
      rooted = bus_held b whose root floor (SwitchOff off) note.marks held v before;
      finds = before.finds;
      owns = before.owns;
      may_fail = before.may_fail;
      granted = tt;
      by_message = l;
    })

-- a job on the bus itself, by its kind
pub bus_runs : (b : BoardView) (whose : TransferView) → IsTree b
    → (root floor : ℕ) (job : Job) (note : Note) (k : JobOutcome → WalkTree) (held : List LockId) (v : Slots)
    → (t : Bool) → is_line job ≡ t → Before b whose root [] (lock.Bus root ∷ []) floor job note.marks held v
    → ((o : JobOutcome) (w : Slots) → After b [] (lock.Bus root ∷ []) job note.marks v o w → Runs b whose held w (k o))
    → Runs b whose held v (at_bus job note k)
bus_runs b whose tree root floor job note k held v true l before goes_on =
    line_runs b whose root [] (lock.Bus root ∷ []) floor (λ p i. locks_cross root [] p i) (λ x i. i) job note k held v l before goes_on
bus_runs b whose tree root floor job note k held v false l before goes_on =
    subst (λ (t : Bool). Runs b whose held v (cond t (Then (Shift job) note (over job zero note k)) (messages (more_of job) job note k)))
    (sym l)
    (root_runs b whose tree root floor job note k held v l before goes_on)
