-- What does a job at the end of some hops, and what it needs and leaves. `ls` are the locks of these hops that are
-- held, `floor` the least rank among the held ones.
use Rattle.bus_laws.proofs.Cited.{◌≡◌, ℕ, ◌<◌, ◌≤◌, Bool, true, false, List, [], ◌∷◌, Some, None, ◌⊎◌, AllByRecursion, LockId, BoardView}
use Rattle.bus_laws.proofs.Cited.{TransferView, Hop, hops, buses, root_of, locks_of, Crosses, IsAmongHops, Mark, Job, Call, Select}
use Rattle.bus_laws.proofs.Cited.{SwitchOff, off_bus, off_mux, JobOutcome, Good, Refused, Unsent, Failed, Note, WalkTree, job_bus, is_line}
use Rattle.bus_laws.proofs.Cited.{is_gpio, is_arbitrator, Slots, At, Clean, turned, set_marks, Doer, rank, IsOpenOn, InLocks, IsRest, Owns}
use Rattle.bus_laws.proofs.Cited.{MayFail, IsGranted, Runs}
use Rattle.i2c_base.specs.declared.ids.LockId.TheVariants as lock
use Rattle.bus_laws.specs.Runs.{answers, FindsOff}

-- a hop lets a job through: a line always does, a chip where it answers
abbrev pub Responds : BoardView → Hop → Type 0
Responds b h = (is_gpio h.kind ≡ true) ⊎ (answers b h.mux ≡ true)

abbrev pub AllRespond : BoardView → List Hop → Type 0
AllRespond b [] = Unit {0}
AllRespond b (h ∷ hs) = Responds b h × AllRespond b hs

-- what a job leaves off its path
abbrev pub job_after : Job → List Mark → JobOutcome → Slots → Slots
job_after (Call bus messages) marks o v = v
job_after (Select h) marks Good v = turned v h.on h.mux Clean (Some h.channel)
job_after (Select h) marks Refused v = turned v h.on h.mux Clean None
job_after (Select h) marks Unsent v = v
job_after (Select h) marks Failed v = set_marks marks v
job_after (SwitchOff off) marks Good v = turned v (off_bus off) (off_mux off) Clean None
job_after (SwitchOff off) marks Refused v = turned v (off_bus off) (off_mux off) Clean None
job_after (SwitchOff off) marks Unsent v = v
job_after (SwitchOff off) marks Failed v = set_marks marks v

-- a select that was sent was answered as its mux answers
abbrev pub SelectAnswers : BoardView → Job → Bool → Type 0
SelectAnswers b (Select h) t = answers b h.mux ≡ t
SelectAnswers b (Call bus messages) t = Unit {0}
SelectAnswers b (SwitchOff off) t = Unit {0}

-- which outcomes a job can have: a line isn't refused; what is sent found its way, what is unsent didn't
abbrev pub CanJob : BoardView → List Hop → Job → JobOutcome → Type 0
CanJob b hs job Good = (is_line job ≡ true) ⊎ (AllRespond b hs × SelectAnswers b job true)
CanJob b hs job Refused = (is_line job ≡ false) × AllRespond b hs × SelectAnswers b job false
CanJob b hs job Unsent = (is_line job ≡ false) × (AllRespond b hs → ⊥)
CanJob b hs job Failed = Unit {0}

-- the job's own bus is none of those that the hops stand on
abbrev pub OwnsOff : Job → List Hop → Type 0
OwnsOff (Call bus messages) hs = Unit {0}
OwnsOff (Select h) hs = Crosses h.on hs → ⊥
OwnsOff (SwitchOff off) hs = Crosses (off_bus off) hs → ⊥

abbrev pub CallUnmarked : Job → List Mark → Type 0
CallUnmarked (Call bus messages) marks = marks ≡ []
CallUnmarked (Select h) marks = Unit {0}
CallUnmarked (SwitchOff off) marks = Unit {0}

-- the bus is clean, and an arbitrator that is to be asked is shut
abbrev pub IsFresh : Hop → At → Type 0
IsFresh h x = (x.slot ≡ Clean) × (is_arbitrator h.kind ≡ true → x.kept h.mux ≡ None)

-- what a job finds on its own bus before its first step
abbrev pub FindsFirst : BoardView → Job → Slots → Type 0
FindsFirst b (Call bus messages) v = Unit {0}
FindsFirst b (Select h) v = IsFresh h (v h.on) × IsAmongHops h (hops b h.bus) × (h.bus < buses b)
FindsFirst b (SwitchOff off) v = FindsOff b off v

-- a hop over the job's bus is behind the walk already: selected, its lock held, and none of the hops before it
pub record IsPassed (b : BoardView) (held : List LockId) (v : Slots) (hs : List Hop) (g : Hop) : Type 0 where
  pub selected : IsOpenOn b g (v g.on)
  pub locked : InLocks (lock.Mux g.on) held
  pub off : Crosses g.on hs → ⊥

pub record Before (b : BoardView) (whose : TransferView) (root : ℕ) (hs : List Hop) (ls : List LockId) (floor : ℕ) (job : Job)
    (marks : List Mark) (held : List LockId) (v : Slots) : Type 0 where
  pub locks : (l : LockId) → InLocks l ls → InLocks l held
  pub ranks : (l : LockId) → InLocks l held → floor ≤ rank b l
  pub rest : (p : ℕ) → InLocks (lock.Mux p) ls → IsRest b p (v p)
  pub finds : FindsFirst b job v
  pub owns : Owns job marks held
  pub owns_off : OwnsOff job hs
  pub way : (g : Hop) → IsAmongHops g (hops b (job_bus job)) → IsAmongHops g hs ⊎ IsPassed b held v hs g
  pub same_root : root_of b (job_bus job) ≡ root
  pub may_fail : MayFail b marks held v
  pub marks_off : AllByRecursion (λ (m : Mark). Crosses m.on hs → ⊥) marks
  pub call_unmarked : CallUnmarked job marks
  pub granted : IsGranted b whose job
  pub line_rooted : is_line job ≡ true → InLocks (lock.Bus root) (locks_of root hs)

pub record After (b : BoardView) (hs : List Hop) (ls : List LockId) (job : Job) (marks : List Mark) (v : Slots) (o : JobOutcome)
    (w : Slots) : Type 0 where
  pub off : (p : ℕ) → (Crosses p hs → ⊥) → w p ≡ job_after job marks o v p
  pub rest : (p : ℕ) → InLocks (lock.Mux p) ls → IsRest b p (w p)
  pub can : CanJob b hs job o

-- whatever goes on runs from what the job leaves, so the job and what goes on run
abbrev pub DoerRuns : BoardView → TransferView → ℕ → List Hop → List LockId → ℕ → Doer → Type 0
DoerRuns b whose root hs ls floor on =
    (job : Job) (note : Note) (k : JobOutcome → WalkTree) (held : List LockId) (v : Slots)
    → Before b whose root hs ls floor job note.marks held v
    → ((o : JobOutcome) (w : Slots) → After b hs ls job note.marks v o w → Runs b whose held w (k o))
    → Runs b whose held v (on job note k)
