-- The walk of a transfer in the rule's own words (Linux i2c-topology): which whole lists of steps it is. The list of a job is
-- put together of the lists of the jobs that it needs on the bus before the mux.
use Rattle.std.specs.Prelude.{◌≡◌, ℕ, zero, suc, Bool, true, false, ◌&&◌, List, [], ◌∷◌, ◌++◌, map, reverse, Option, Some, None, MatchBool}
use Rattle.i2c_base.specs.declared.ids.LockId.{LockId}
use Rattle.i2c_base.specs.declared.errno.Errno.{Errno}
use Rattle.i2c_base.specs.Board.{BoardView}
use Rattle.i2c_base.specs.Transfer.{TransferView}
use Rattle.i2c_spec.specs.Tree.{Hop, hops, root_of, locks_of}
use Rattle.i2c_spec.specs.Messages.{messages_of}
use Rattle.i2c_spec.specs.Flat.{refusal}
use Rattle.bus_spec.specs.Walk.{Job, Call, Select, SwitchOff, Deselect, Close, Act, Mark, Take, Free, Send, Shift, Settle, ActOutcome, JobOutcome, Ask, Good, Refused, Unsent, Failed, MarkOf, Go, On, Last, Over, goes, job_outcome, verdict_of, decides, is_line, more_of, KeptOf}
use Rattle.bus_spec.specs.Grammar.{kind_of, keeps}

-- WHAT A FAILURE MARKS. A step is done for a job, and that job maybe for another one: its way is all of these, its own job first.
-- Where the step fails by the port it marks the mux of each select and close on its way up to the nearest deselect, and the mux of
-- that deselect, and none beyond
abbrev pub marks_on : List Job → List Mark
marks_on [] = []
marks_on (Call bus messages ∷ way) = marks_on way
marks_on (Select h ∷ way) = (record { on = h.on; mux = h.mux }) ∷ marks_on way
marks_on (SwitchOff (Close on mux kind) ∷ way) = (record { on = on; mux = mux }) ∷ marks_on way
marks_on (SwitchOff (Deselect h) ∷ way) = (record { on = h.on; mux = h.mux }) ∷ []

-- the way leads to the caller's messages: there is no deselect on it
abbrev pub is_forward : List Job → Bool
is_forward [] = true
is_forward (Call bus messages ∷ way) = is_forward way
is_forward (Select h ∷ way) = is_forward way
is_forward (SwitchOff (Close on mux kind) ∷ way) = is_forward way
is_forward (SwitchOff (Deselect h) ∷ way) = false

-- a step, and what it marks where it fails by the port: nothing, if it is none of a job
pub record Deed : Type 0 where
  pub act : Act
  pub marks : List Mark

abbrev pub without_marks : Act → Deed
without_marks act = record { act = act; marks = [] }

abbrev pub for_jobs : Act → List Job → Deed
for_jobs act way = record { act = act; marks = marks_on way }

-- a look and its answer; a step and what came of it
pub data PathStep : Type 0 where
  Saw : (ask : Ask) → (mark : Option ℕ) → PathStep
  Did : (deed : Deed) → (out : ActOutcome) → PathStep

abbrev pub deed_of : PathStep → Option Deed
deed_of (Saw ask mark) = None
deed_of (Did deed out) = Some deed

-- what the steps of a job are: of this job, for these others, these steps, and what came of it
abbrev pub Rule : Type 1
Rule = Job → List Job → List PathStep → JobOutcome → Type 0

-- A JOB ON THE BUS ITSELF. Behind its last message or line step there is the settle, directly, where it decides
abbrev pub settle_where : Bool → Option Errno → List (Option Deed)
settle_where true verdict = Some (without_marks (Settle verdict)) ∷ []
settle_where false verdict = []

abbrev pub IsJobEnd : Job → List Job → ℕ → ActOutcome → List PathStep → JobOutcome → Type 0
IsJobEnd job whose left last steps out =
    (map deed_of steps ≡ settle_where (is_forward (job ∷ whose) && decides job (job_outcome job left last)) (verdict_of job left last))
    × (out ≡ job_outcome job left last)

-- which message of a job follows one behind which so many may come
abbrev pub next_by : Go → ℕ → Option ℕ
next_by On left = Some left
next_by Last left = Some zero
next_by Over left = None

abbrev pub next_message : Job → ℕ → ActOutcome → Option ℕ
next_message job zero out = None
next_message job (suc left) out = next_by (goes job left out) left

abbrev pub NextOr : Option ℕ → (ℕ → Type 0) → Type 0 → Type 0
NextOr None more end = end
NextOr (Some left) more end = more left

-- its messages, one after the other
abbrev pub AreMessages : Job → List Job → ℕ → List PathStep → JobOutcome → Type 0
AreMessages job whose left [] out = ⊥
AreMessages job whose left (Saw ask mark ∷ steps) out = ⊥
AreMessages job whose left (Did deed o ∷ steps) out =
    (deed ≡ for_jobs (Send job left) (job ∷ whose)) × NextOr (next_message job left o) (λ next. AreMessages job whose next steps out)
    (IsJobEnd job whose left o steps out)

-- its line step
abbrev pub IsLineStep : Job → List Job → List PathStep → JobOutcome → Type 0
IsLineStep job whose [] out = ⊥
IsLineStep job whose (Saw ask mark ∷ steps) out = ⊥
IsLineStep job whose (Did deed o ∷ steps) out = (deed ≡ for_jobs (Shift job) (job ∷ whose)) × IsJobEnd job whose zero o steps out

abbrev pub AtBus : Rule
AtBus job whose steps out = MatchBool (is_line job) (IsLineStep job whose steps out) (AreMessages job whose (more_of job) steps out)

-- FULL: the locks are taken, the job is done, and the locks are freed in reverse order
pub record IsLocked (locks : List LockId) (on : Rule) (job : Job) (whose : List Job) (steps : List PathStep) (out : JobOutcome)
    : Type 0 where
  pub takes : List PathStep
  pub middle : List PathStep
  pub frees : List PathStep
  pub all : steps ≡ takes ++ (middle ++ frees)
  pub taken : map deed_of takes ≡ map (λ l. Some (without_marks (Take l))) locks
  pub job_done : on job whose middle out
  pub freed : map deed_of frees ≡ map (λ l. Some (without_marks (Free l))) (reverse locks)

-- INNER, behind a mux: where its bus carries a mark, the marked mux is closed; the channel is selected; the job is done on the
-- mux's bus; the mux is deselected, where it doesn't stay as it is. Each part is a job of its own on that bus. A deselect is on
-- no way to the messages
abbrev pub IsLeft : Bool → Hop → Rule → List Job → List PathStep → Type 0
IsLeft true h on way deselected = deselected ≡ []
IsLeft false h on way deselected = (last : JobOutcome) × on (SwitchOff (Deselect h)) way deselected last

pub record IsOpened (h : Hop) (on : Rule) (job : Job) (whose : List Job) (steps : List PathStep) (out : JobOutcome) : Type 0 where
  pub done : List PathStep
  pub deselected : List PathStep
  pub all : steps ≡ done ++ deselected
  pub job_done : on job whose done out
  pub left : IsLeft h.stays h on (job ∷ whose) deselected

-- the job goes on only where the select was good: without it, neither the job is done nor the mux is deselected
abbrev pub IfGood : JobOutcome → Type 0 → List PathStep → JobOutcome → Type 0
IfGood Good goes_on rest out = goes_on
IfGood Refused goes_on rest out = (rest ≡ []) × (out ≡ Unsent)
IfGood Unsent goes_on rest out = (rest ≡ []) × (out ≡ Unsent)
IfGood Failed goes_on rest out = (rest ≡ []) × (out ≡ Failed)

pub record IsChosen (h : Hop) (on : Rule) (job : Job) (whose : List Job) (steps : List PathStep) (out : JobOutcome) : Type 0 where
  pub selected : List PathStep
  pub rest : List PathStep
  pub came : JobOutcome
  pub all : steps ≡ selected ++ rest
  pub select_done : on (Select h) (job ∷ whose) selected came
  pub goes_on : IfGood came (IsOpened h on job whose rest out) rest out

-- a mux that stays as it is, and keeps the channel, isn't selected
abbrev pub IsCrossed : Hop → Rule → Option ℕ → Job → List Job → List PathStep → JobOutcome → Type 0
IsCrossed h on kept job whose steps out = MatchBool (keeps h kept) (IsOpened h on job whose steps out)
    (IsChosen h on job whose steps out)

pub record IsPassed (h : Hop) (on : Rule) (job : Job) (whose : List Job) (steps : List PathStep) (out : JobOutcome) : Type 0 where
  pub kept : Option ℕ
  pub rest : List PathStep
  pub all : steps ≡ Saw (KeptOf h.on h.mux) kept ∷ rest
  pub crossed : IsCrossed h on kept job whose rest out

-- and only where the close was sent and didn't fail by the port, acknowledged or not
abbrev pub IfSent : JobOutcome → Type 0 → List PathStep → JobOutcome → Type 0
IfSent Good goes_on rest out = goes_on
IfSent Refused goes_on rest out = goes_on
IfSent Unsent goes_on rest out = (rest ≡ []) × (out ≡ Unsent)
IfSent Failed goes_on rest out = (rest ≡ []) × (out ≡ Failed)

abbrev pub IsClosed : BoardView → Hop → Rule → List Job → Option ℕ → List PathStep → JobOutcome → Type 0
IsClosed b h on way None closed came = (closed ≡ []) × (came ≡ Good)
IsClosed b h on way (Some m) closed came = on (SwitchOff (Close h.on m (kind_of b m))) way closed came

pub record IsBehindMux (b : BoardView) (h : Hop) (on : Rule) (job : Job) (whose : List Job) (steps : List PathStep)
    (out : JobOutcome) : Type 0 where
  pub mark : Option ℕ
  pub closed : List PathStep
  pub rest : List PathStep
  pub came : JobOutcome
  pub all : steps ≡ Saw (MarkOf h.on) mark ∷ (closed ++ rest)
  pub close_done : IsClosed b h on (job ∷ whose) mark closed came
  pub goes_on : IfSent came (IsPassed h on job whose rest out) rest out

-- on the bus of a parent-locked mux the part is the inner one, on that of a mux-locked mux the full one
abbrev pub IsPart : Bool → List LockId → Rule → Rule
IsPart true locks on = on
IsPart false locks on = IsLocked locks on

-- at a root, and of a line step on any bus, it is the job itself
abbrev pub IsInner : BoardView → ℕ → List Hop → Rule
IsInner b root [] job whose steps out = AtBus job whose steps out
IsInner b root (h ∷ hs) job whose steps out =
    MatchBool (is_line job) (AtBus job whose steps out)
    (IsBehindMux b h (IsPart h.parent (locks_of root hs) (IsInner b root hs)) job whose steps out)

abbrev pub IsFull : BoardView → ℕ → List Hop → Rule
IsFull b root hs = IsLocked (locks_of root hs) (IsInner b root hs)

-- THE WALK OF A TRANSFER: the full one of its messages on its bus; one settle where it is refused
abbrev pub IsWalkBy : BoardView → TransferView → Option Errno → List PathStep → Type 0
IsWalkBy b t (Some e) steps = map deed_of steps ≡ Some (without_marks (Settle (Some e))) ∷ []
IsWalkBy b t None steps = (out : JobOutcome) × IsFull b (root_of b t.bus) (hops b t.bus) (Call t.bus (messages_of t)) [] steps out

abbrev pub IsWalk : BoardView → TransferView → List PathStep → Type 0
IsWalk b t steps = IsWalkBy b t (refusal b t) steps

-- what is done first, if there is no look before it
abbrev pub first_done : List PathStep → Option Act
first_done [] = None
first_done (Saw ask mark ∷ ps) = None
first_done (Did deed out ∷ ps) = Some deed.act
