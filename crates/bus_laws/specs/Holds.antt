-- Which locks a walk takes, frees and needs, whatever its looks find and its steps give. It knows nothing of worlds and
-- of what is known of the buses, so it holds over ports that tell nothing too.
use Rattle.std.specs.Prelude.{◌≡◌, ℕ, ◌<◌, List, [], ◌∷◌, length, Option, Some, None}
use Rattle.std.specs.List.{AllByRecursion}
use Rattle.i2c_base.specs.declared.ids.LockId.{LockId}
use Rattle.i2c_base.specs.declared.ids.LockId.TheVariants as lock
use Rattle.i2c_base.specs.Board.{BoardView}
use Rattle.i2c_spec.specs.Tree.{buses, root_of, home_of_mux}
use Rattle.bus_spec.specs.Walk.{Mark, Job, Call, Select, SwitchOff, off_bus, off_mux, Take, Free, Send, Shift, Settle, ActOutcome, Passed, Ask, MarkOf, KeptOf, ask_bus, WalkTree, Ends, Look, Then, job_bus}
use Rattle.bus_spec.specs.Stepwise.{IsBelow}
use Rattle.bus_laws.specs.Runs.{InLocks, IsUnmarked}

-- the board has this lock
abbrev pub IsLockOf : BoardView → LockId → Type 0
IsLockOf b (lock.Bus r) = r < length b.roots
IsLockOf b (lock.Mux p) = p < buses b

-- a mark on a bus is of a mux there
abbrev pub IsMarkOn : BoardView → ℕ → Option ℕ → Type 0
IsMarkOn b p None = Unit {0}
IsMarkOn b p (Some m) = home_of_mux b m ≡ p

-- the mux whose channel is asked for stands on that bus
abbrev pub IsAskOf : BoardView → Ask → Type 0
IsAskOf b (MarkOf p) = Unit {0}
IsAskOf b (KeptOf p m) = home_of_mux b m ≡ p

-- what may answer a question
abbrev pub MayAnswer : BoardView → Ask → Option ℕ → Type 0
MayAnswer b (MarkOf p) m = IsMarkOn b p m
MayAnswer b (KeptOf p mux) m = Unit {0}

-- the bus that a control message or a line step switches on has its lock held, and its mux stands there
abbrev pub OwnHeld : BoardView → Job → List LockId → Type 0
OwnHeld b (Call bus messages) held = Unit {0}
OwnHeld b (Select h) held = InLocks (lock.Mux h.on) held × (home_of_mux b h.mux ≡ h.on) × (h.mux < length b.muxes)
OwnHeld b (SwitchOff off) held = InLocks (lock.Mux (off_bus off)) held × (home_of_mux b (off_mux off) ≡ off_bus off)

-- each mark that a failure sets is of a mux at home, whose lock is held
abbrev pub MarksHeld : BoardView → List Mark → List LockId → Type 0
MarksHeld b marks held = AllByRecursion (λ m. InLocks (lock.Mux m.on) held × (home_of_mux b m.mux ≡ m.on)) marks

-- no two of the marks are on one bus
abbrev pub AreApart : List Mark → Type 0
AreApart [] = Unit {0}
AreApart (m ∷ ms) = IsUnmarked m.on ms × AreApart ms

-- what a message or a line step needs of the locks
pub record SendsIn (b : BoardView) (job : Job) (marks : List Mark) (held : List LockId) : Type 0 where
  pub rooted : InLocks (lock.Bus (root_of b (job_bus job))) held
  pub own : OwnHeld b job held
  pub marked : MarksHeld b marks held
  pub apart : AreApart marks

-- a walk goes on from these locks, the last one taken first
abbrev pub HoldsLocks : BoardView → List LockId → WalkTree → Type 0
HoldsLocks b held Ends = held ≡ []
HoldsLocks b held (Look ask next) = InLocks (lock.Mux (ask_bus ask)) held × IsAskOf b ask
    × ((m : Option ℕ) → MayAnswer b ask m → HoldsLocks b held (next m))
HoldsLocks b held (Then (Take l) note next) = IsLockOf b l × IsBelow b l held × HoldsLocks b (l ∷ held) (next Passed)
HoldsLocks b held (Then (Free l) note next) = (rest : List LockId) × (held ≡ l ∷ rest) × HoldsLocks b rest (next Passed)
HoldsLocks b held (Then (Send job left) note next) = SendsIn b job note.marks held × ((out : ActOutcome) → HoldsLocks b held (next out))
HoldsLocks b held (Then (Shift job) note next) = SendsIn b job note.marks held × ((out : ActOutcome) → HoldsLocks b held (next out))
HoldsLocks b held (Then (Settle verdict) note next) = HoldsLocks b held (next Passed)
