-- A walk that has begun holds a lock until it ends. The induction goes over the looks in front of its next step.
use Rattle.flat_laws.proofs.Cited.{◌≡◌, ℕ, zero, suc, cond, List, [], ◌∷◌, Option, Some, None, refl, subst, Errno, BoardView, TransferView}
use Rattle.flat_laws.proofs.Cited.{Hop, hops, root_of, locks_of, messages_of, refusal, Job, Call, Act, Take, Free, Send, Shift, Settle}
use Rattle.flat_laws.proofs.Cited.{ActOutcome, Note, WalkTree, Ends, Look, Then, answer_to, locked, inner, walk_by, walk_for, plain, seen}
use Rattle.flat_laws.proofs.Cited.{is_over, first_act, rest_of, begun}
use Rattle.i2c_base.specs.declared.ids.LockId.TheVariants as lock
use Rattle.bus_spec.specs.Slots.{Slots}
use Rattle.bus_laws.proofs.walk.Keeps.{GoesOver, GoesOverHop, DoerKeeps, locked-keeps, path-locks, inner-keeps}
use Rattle.bus_laws.proofs.walk.Calls.{AnyLock}

-- how many locks are held after a step
abbrev pub locks_behind : Act → ℕ → ℕ
locks_behind (Take l) n = suc n
locks_behind (Free l) zero = zero
locks_behind (Free l) (suc n) = n
locks_behind (Send job left) n = n
locks_behind (Shift job) n = n
locks_behind (Settle verdict) n = n

-- what is left of a walk that holds so many locks: nothing where these are none; else it goes on until it has freed all of them
abbrev pub HoldsOn : ℕ → WalkTree → Type 0
HoldsOn zero w = w ≡ Ends
HoldsOn (suc n) Ends = ⊥
HoldsOn (suc n) (Look ask next) = (m : Option ℕ) → HoldsOn (suc n) (next m)
HoldsOn (suc n) (Then act note next) = (out : ActOutcome) → HoldsOn (locks_behind act (suc n)) (next out)

-- each piece of a walk keeps it where one lock is held beside those of its own
abbrev HeldBeside : ℕ → WalkTree → Type 0
HeldBeside n w = HoldsOn (suc n) w

abbrev AnyJob : Job → Note → Type 0
AnyJob job note = Unit {0}

steps_on : GoesOver HeldBeside AnyJob AnyLock
steps_on = record {
  settle = λ n verdict w h out. h;
  send = λ n job left note next own h. h;
  shift = λ n job note next line own h. h;
  take = λ n l next own h. h;
  free = λ n l next own h. h;
}

hop_on : (b : BoardView) (h : Hop) → GoesOverHop b HeldBeside AnyJob AnyLock h
hop_on b h = record {
  lock = tt;
  mark = λ n next keeps. keeps;
  kept = λ n next keeps. keeps;
  select = λ job note own. tt;
  close = λ job note m own. tt;
  deselect = tt;
}

-- THE WALK of a transfer: what is left of it behind its first step
abbrev pub Begins : WalkTree → Type 0
Begins Ends = ⊥
Begins (Look ask next) = ⊥
Begins (Then act note next) = (out : ActOutcome) → HoldsOn (locks_behind act zero) (next out)

pub walk-begins : (b : BoardView) (t : TransferView) → Begins (walk_for b t)
walk-begins b t = by (refusal b t)
  where
    inner_on : (root : ℕ) (hs : List Hop) → DoerKeeps b HeldBeside AnyJob AnyLock steps_on (inner b root hs)
    inner_on root hs = inner-keeps b HeldBeside AnyJob AnyLock steps_on root hs tt (λ g among. hop_on b g)

    -- the lock that is taken first is freed last
    by_path : (root : ℕ) (hs : List Hop)
        → Begins (locked (locks_of root hs) (inner b root hs) (Call t.bus (messages_of t)) plain (λ o. Ends))
    by_path root [] =
        λ o. inner_on root [] zero (Call t.bus (messages_of t)) plain (λ out. Then (Free (lock.Bus root)) plain (λ o2. Ends)) tt
        (λ out o2. refl)
    by_path root (h ∷ hs) =
        λ o. locked-keeps b HeldBeside AnyJob AnyLock steps_on (cond h.parent (locks_of root hs) [])
        (path-locks b HeldBeside AnyJob AnyLock steps_on root (h ∷ hs) tt (λ g among. hop_on b g)).1
        (inner b root (h ∷ hs)) (inner_on root (h ∷ hs)) zero
        (Call t.bus (messages_of t)) plain (λ out. Then (Free (lock.Mux h.on)) plain (λ o2. Ends)) tt (λ out o2. refl)

    by : (o : Option Errno) → Begins (walk_by b t o)
    by (Some e) = λ out. refl
    by None = by_path (root_of b t.bus) (hops b t.bus)

-- ONE STEP MORE of what is left, or of the walk that begins
first_begins : (slots : Slots) (w : WalkTree) (act : Act) → Begins w → first_act (seen slots w) ≡ Some act → (out : ActOutcome)
    → HoldsOn (locks_behind act zero) (rest_of (seen slots w) out)
first_begins slots Ends act h first out = absurd h
first_begins slots (Look ask next) act h first out = absurd h
first_begins slots (Then a note next) act h first out =
    subst (λ (x : Act). HoldsOn (locks_behind x zero) (next out)) (let f : Some a ≡ Some act = first in cc) (h out)

first_on : (slots : Slots) (n : ℕ) (w : WalkTree) (act : Act) → HoldsOn (suc n) w → first_act (seen slots w) ≡ Some act
    → (out : ActOutcome) → HoldsOn (locks_behind act (suc n)) (rest_of (seen slots w) out)
first_on slots n Ends act h first out = absurd h
first_on slots n (Look ask next) act h first out =
    first_on slots n (next (answer_to slots ask)) act (h (answer_to slots ask)) first out
first_on slots n (Then a note next) act h first out =
    subst (λ (x : Act). HoldsOn (locks_behind x (suc n)) (next out)) (let f : Some a ≡ Some act = first in cc) (h out)

begun_on : (b : BoardView) (slots : Slots) (o : Option TransferView) (act : Act) → first_act (seen slots (begun b o)) ≡ Some act
    → (out : ActOutcome) → HoldsOn (locks_behind act zero) (rest_of (seen slots (begun b o)) out)
begun_on b slots None act first out = absurd (let f : None ≡ Some act = first in cc)
begun_on b slots (Some t) act first out = first_begins slots (walk_for b t) act (walk-begins b t) first out

pub next-holds : (b : BoardView) (slots : Slots) (o : Option TransferView) (n : ℕ) (w : WalkTree) (act : Act) → HoldsOn n w
    → first_act (seen slots (cond (is_over w) (begun b o) w)) ≡ Some act → (out : ActOutcome)
    → HoldsOn (locks_behind act n) (rest_of (seen slots (cond (is_over w) (begun b o) w)) out)
next-holds b slots o zero Ends act h first out = begun_on b slots o act first out
next-holds b slots o zero (Look ask next) act h first out = absurd (let f : Look ask next ≡ Ends = h in cc)
next-holds b slots o zero (Then a note next) act h first out = absurd (let f : Then a note next ≡ Ends = h in cc)
next-holds b slots o (suc n) Ends act h first out = absurd h
next-holds b slots o (suc n) (Look ask next) act h first out = first_on slots n (Look ask next) act h first out
next-holds b slots o (suc n) (Then a note next) act h first out = first_on slots n (Then a note next) act h first out
