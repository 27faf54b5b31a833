-- What each piece of a walk keeps, of any property of walks that goes over a step. It may tell how many locks are held there. The
-- inductions go over the messages of a job, over locks, and over hops.
use Rattle.bus_laws.proofs.Cited.{◌≡◌, ℕ, zero, suc, Bool, true, false, cond, ◌&&◌, List, [], ◌∷◌, Option, Some, None, refl, inl, inr}
use Rattle.bus_laws.proofs.Cited.{LockId, Errno, BoardView, TransferView, Hop, hops, root_of, locks_of, IsAmongHops, messages_of, refusal}
use Rattle.bus_laws.proofs.Cited.{Job, Call, Select, SwitchOff, Deselect, Close, Take, Free, Send, Shift, Settle, ActOutcome, JobOutcome}
use Rattle.bus_laws.proofs.Cited.{Good, Refused, Unsent, Failed, Note, MarkOf, KeptOf, WalkTree, Ends, Look, Then, Go, On, Last, Over, goes}
use Rattle.bus_laws.proofs.Cited.{job_outcome, verdict_of, decides, is_line, more_of, Doer, settled, over, by_go, messages, at_bus, locked}
use Rattle.bus_laws.proofs.Cited.{part, with_mark, aside, if_sent, if_good, kind_of, closing, left_behind, opened, chosen, keeps, crossed}
use Rattle.bus_laws.proofs.Cited.{behind, inner, walk_by, walk_for, plain}
use Rattle.i2c_base.specs.declared.ids.LockId.TheVariants as lock

-- one of several walks that go on
module _ (P : WalkTree → Type 0) where
  pub by_go-keeps : (g : Go) (x y z : WalkTree) → P x → P y → P z → P (by_go g x y z)
  by_go-keeps On x y z hx hy hz = hx
  by_go-keeps Last x y z hx hy hz = hy
  by_go-keeps Over x y z hx hy hz = hz

  pub if_sent-keeps : (o : JobOutcome) (w : WalkTree) (k : JobOutcome → WalkTree) → P w → ((x : JobOutcome) → P (k x)) → P (if_sent o w k)
  if_sent-keeps Good w k hw hk = hw
  if_sent-keeps Refused w k hw hk = hw
  if_sent-keeps Unsent w k hw hk = hk Unsent
  if_sent-keeps Failed w k hw hk = hk Failed

  pub if_good-keeps : (o : JobOutcome) (w : WalkTree) (k : JobOutcome → WalkTree) → P w → ((x : JobOutcome) → P (k x)) → P (if_good o w k)
  if_good-keeps Good w k hw hk = hw
  if_good-keeps Refused w k hw hk = hk Unsent
  if_good-keeps Unsent w k hw hk = hk Unsent
  if_good-keeps Failed w k hw hk = hk Failed

-- a property of walks, by how many locks are held, goes over each step, where a job with its note and a lock are as they have to be
pub record GoesOver (P : ℕ → WalkTree → Type 0) (Q : Job → Note → Type 0) (L : LockId → Type 0) : Type 0 where
  pub settle : (n : ℕ) (verdict : Option Errno) (w : WalkTree) → P n w → P n (Then (Settle verdict) plain (λ o. w))
  pub send : (n : ℕ) (job : Job) (left : ℕ) (note : Note) (next : ActOutcome → WalkTree) → Q job note
      → ((out : ActOutcome) → P n (next out)) → P n (Then (Send job left) note next)
  pub shift : (n : ℕ) (job : Job) (note : Note) (next : ActOutcome → WalkTree) → is_line job ≡ true → Q job note
      → ((out : ActOutcome) → P n (next out)) → P n (Then (Shift job) note next)
  pub take : (n : ℕ) (l : LockId) (next : ActOutcome → WalkTree) → L l → ((out : ActOutcome) → P (suc n) (next out))
      → P n (Then (Take l) plain next)
  pub free : (n : ℕ) (l : LockId) (next : ActOutcome → WalkTree) → L l → ((out : ActOutcome) → P n (next out))
      → P (suc n) (Then (Free l) plain next)

-- and over what a hop adds: its lock, its looks, and what switches it around a job
pub record GoesOverHop (b : BoardView) (P : ℕ → WalkTree → Type 0) (Q : Job → Note → Type 0) (L : LockId → Type 0) (h : Hop)
    : Type 0 where
  pub lock : L (lock.Mux h.on)
  pub mark : (n : ℕ) (next : Option ℕ → WalkTree) → ((m : Option ℕ) → P n (next m)) → P n (Look (MarkOf h.on) next)
  pub kept : (n : ℕ) (next : Option ℕ → WalkTree) → ((m : Option ℕ) → P n (next m)) → P n (Look (KeptOf h.on h.mux) next)
  pub select : (job : Job) (note : Note) → Q job note → Q (Select h) (with_mark h.on h.mux note)
  pub close : (job : Job) (note : Note) (m : ℕ) → Q job note → Q (SwitchOff (Close h.on m (kind_of b m))) (with_mark h.on m note)
  pub deselect : Q (SwitchOff (Deselect h)) (aside h)

module _ (b : BoardView) (P : ℕ → WalkTree → Type 0) (Q : Job → Note → Type 0) (L : LockId → Type 0) (steps : GoesOver P Q L) where
  -- what a doer keeps
  abbrev pub DoerKeeps : Doer → Type 0
  DoerKeeps on =
      (n : ℕ) (job : Job) (note : Note) (k : JobOutcome → WalkTree) → Q job note → ((o : JobOutcome) → P n (k o)) → P n (on job note k)

  abbrev pub LocksKeep : List LockId → Type 0
  LocksKeep [] = Unit {0}
  LocksKeep (l ∷ ls) = L l × LocksKeep ls

  settled_keeps : (n : ℕ) (x : Bool) (verdict : Option Errno) (w : WalkTree) → P n w → P n (settled x verdict w)
  settled_keeps n true verdict w h = steps.settle n verdict w h
  settled_keeps n false verdict w h = h

  over_keeps : (n : ℕ) (job : Job) (left : ℕ) (note : Note) (k : JobOutcome → WalkTree) → ((o : JobOutcome) → P n (k o))
      → (out : ActOutcome) → P n (over job left note k out)
  over_keeps n job left note k hk out =
      settled_keeps n (note.forward && decides job (job_outcome job left out)) (verdict_of job left out) (k (job_outcome job left out))
      (hk (job_outcome job left out))

  messages_keep : (left : ℕ) → DoerKeeps (messages left)
  messages_keep zero n job note k own hk = steps.send n job zero note (over job zero note k) own (over_keeps n job zero note k hk)
  messages_keep (suc left) n job note k own hk =
      steps.send n job (suc left) note _ own
      (λ out. by_go-keeps (P n) (goes job left out) (messages left job note k) (Then (Send job zero) note (over job zero note k))
      (over job (suc left) note k out)
      (messages_keep left n job note k own hk)
      (steps.send n job zero note (over job zero note k) own (over_keeps n job zero note k hk))
      (over_keeps n job (suc left) note k hk out))

  bus_keeps : DoerKeeps at_bus
  bus_keeps n job note k own hk = by (is_line job) refl
    where
      by : (x : Bool) → is_line job ≡ x
          → P n (cond x (Then (Shift job) note (over job zero note k)) (messages (more_of job) job note k))
      by true line = steps.shift n job note (over job zero note k) line own (over_keeps n job zero note k hk)
      by false line = messages_keep (more_of job) n job note k own hk

  pub locked-keeps : (ls : List LockId) → LocksKeep ls → (on : Doer) → DoerKeeps on → DoerKeeps (locked ls on)
  locked-keeps [] locks on hon n job note k own hk = hon n job note k own hk
  locked-keeps (l ∷ ls) locks on hon n job note k own hk =
      steps.take n l _ locks.0
      (λ out. locked-keeps ls locks.1 on hon (suc n) job note (λ o. Then (Free l) plain (λ o2. k o)) own
      (λ o. steps.free n l (λ o2. k o) locks.0 (λ out2. hk o)))

  part_keeps : (parent : Bool) (ls : List LockId) → LocksKeep ls → (on : Doer) → DoerKeeps on → DoerKeeps (part parent ls on)
  part_keeps true ls locks on hon = hon
  part_keeps false ls locks on hon = locked-keeps ls locks on hon

  module _ (h : Hop) (hop : GoesOverHop b P Q L h) (on : Doer) (hon : DoerKeeps on) where
    left_keeps : (n : ℕ) (stays : Bool) (k : JobOutcome → WalkTree) → ((o : JobOutcome) → P n (k o)) → (out : JobOutcome)
        → P n (left_behind stays h on k out)
    left_keeps n true k hk out = hk out
    left_keeps n false k hk out = hon n (SwitchOff (Deselect h)) (aside h) (λ x. k out) hop.deselect (λ x. hk out)

    opened_keeps : DoerKeeps (opened h on)
    opened_keeps n job note k own hk = hon n job note (left_behind h.stays h on k) own (left_keeps n h.stays k hk)

    chosen_keeps : DoerKeeps (chosen h on)
    chosen_keeps n job note k own hk =
        hon n (Select h) (with_mark h.on h.mux note) (λ o. if_good o (opened h on job note k) k) (hop.select job note own)
        (λ o. if_good-keeps (P n) o (opened h on job note k) k (opened_keeps n job note k own hk) hk)

    crossed_keeps : (m : Option ℕ) → DoerKeeps (λ job note k. crossed h on job note k m)
    crossed_keeps m n job note k own hk = by (keeps h m)
      where
        by : (x : Bool) → P n (cond x (opened h on job note k) (chosen h on job note k))
        by true = opened_keeps n job note k own hk
        by false = chosen_keeps n job note k own hk

    closing_keeps : (n : ℕ) (job : Job) (note : Note) (k : JobOutcome → WalkTree) (w : WalkTree) → Q job note
        → ((o : JobOutcome) → P n (k o)) → P n w → (m : Option ℕ) → P n (closing b h on note k w m)
    closing_keeps n job note k w own hk hw None = hw
    closing_keeps n job note k w own hk hw (Some m) =
        hon n (SwitchOff (Close h.on m (kind_of b m))) (with_mark h.on m note) (λ o. if_sent o w k) (hop.close job note m own)
        (λ o. if_sent-keeps (P n) o w k hw hk)

    behind_keeps : DoerKeeps (behind b h on)
    behind_keeps n job note k own hk =
        hop.mark n _
        (closing_keeps n job note k (Look (KeptOf h.on h.mux) (crossed h on job note k)) own hk
        (hop.kept n (crossed h on job note k) (λ m. crossed_keeps m n job note k own hk)))

  pub path-locks : (root : ℕ) (hs : List Hop) → L (lock.Bus root) → ((g : Hop) → IsAmongHops g hs → GoesOverHop b P Q L g)
      → LocksKeep (locks_of root hs)
  path-locks root [] top among = (top, tt)
  path-locks root (h ∷ hs) top among = ((among h (inl refl)).lock, by (path-locks root hs top (λ g a. among g (inr a))) h.parent)
    where
      by : LocksKeep (locks_of root hs) → (x : Bool) → LocksKeep (cond x (locks_of root hs) [])
      by more true = more
      by more false = tt

  pub inner-keeps : (root : ℕ) (hs : List Hop) → L (lock.Bus root) → ((g : Hop) → IsAmongHops g hs → GoesOverHop b P Q L g)
      → DoerKeeps (inner b root hs)
  inner-keeps root [] top among n job note k own hk = bus_keeps n job note k own hk
  inner-keeps root (h ∷ hs) top among n job note k own hk =
      by (is_line job) (behind_keeps h (among h (inl refl)) (part h.parent (locks_of root hs) (inner b root hs))
      (part_keeps h.parent (locks_of root hs) (path-locks root hs top (λ g a. among g (inr a))) (inner b root hs)
      (inner-keeps root hs top (λ g a. among g (inr a)))) n job note k own hk)
    where
      by : (x : Bool) → P n (behind b h (part h.parent (locks_of root hs) (inner b root hs)) job note k)
          → P n (cond x (at_bus job note k) (behind b h (part h.parent (locks_of root hs) (inner b root hs)) job note k))
      by true more = bus_keeps n job note k own hk
      by false more = more

  -- THE WALK of a transfer
  pub walk-keeps : (t : TransferView) → P zero Ends → (refusal b t ≡ None → Q (Call t.bus (messages_of t)) plain)
      → (refusal b t ≡ None → L (lock.Bus (root_of b t.bus)))
      → (refusal b t ≡ None → (g : Hop) → IsAmongHops g (hops b t.bus) → GoesOverHop b P Q L g) → P zero (walk_for b t)
  walk-keeps t ends call top hop = by (refusal b t) refl
    where
      by : (o : Option Errno) → refusal b t ≡ o → P zero (walk_by b t o)
      by (Some e) at = steps.settle zero (Some e) Ends ends
      by None at =
          locked-keeps (locks_of (root_of b t.bus) (hops b t.bus)) (path-locks (root_of b t.bus) (hops b t.bus) (top at) (hop at))
          (inner b (root_of b t.bus) (hops b t.bus)) (inner-keeps (root_of b t.bus) (hops b t.bus) (top at) (hop at)) zero
          (Call t.bus (messages_of t)) plain (λ o. Ends) (call at) (λ o. ends)
