-- Groups: some callers, and the roots that their transfers name. What a journal of theirs tells, and how it stands behind
-- a past of others.
use Rattle.std.specs.Prelude.{◌≡◌, ℕ, ◌<◌, Bool, true, false, List, [], ◌∷◌, ◌++◌, reverse, Option, Some, None}
use Rattle.i2c_base.specs.declared.ids.LockId.{LockId}
use Rattle.i2c_base.specs.declared.ids.LockId.TheVariants as lock
use Rattle.i2c_base.specs.declared.entry.Entry.{Entry}
use Rattle.i2c_base.specs.declared.reply.Reply.{Reply}
use Rattle.i2c_base.specs.Board.{BoardView}
use Rattle.i2c_base.specs.Transfer.{TransferView}
use Rattle.i2c_spec.specs.Tree.{buses, root_of}
use Rattle.i2c_spec.specs.History.{Asks}
use Rattle.bus_spec.specs.Walk.{Mark, Act, Take, Free, Send, Shift, Settle, ActOutcome, ask_bus, WalkTree, Ends, Look, Then, job_bus}
use Rattle.bus_spec.specs.Readings.{caller_of, Everywhere}
use Rattle.bus_spec.specs.Past.{Now, now}
use Rattle.bus_spec.specs.Stepwise.{IsStepwise}

-- the root that a lock is of
abbrev pub root_of_lock : BoardView → LockId → ℕ
root_of_lock b (lock.Bus r) = r
root_of_lock b (lock.Mux p) = root_of b p

-- what a failure marks is on these roots
abbrev pub MarksIn : BoardView → (ℕ → Bool) → List Mark → Type 0
MarksIn b roots [] = Unit {0}
MarksIn b roots (m ∷ ms) = (roots (root_of b m.on) ≡ true) × MarksIn b roots ms

-- a step is on these roots, and what it marks where it fails
abbrev pub ActIn : BoardView → (ℕ → Bool) → Act → List Mark → Type 0
ActIn b roots (Take l) marks = roots (root_of_lock b l) ≡ true
ActIn b roots (Free l) marks = roots (root_of_lock b l) ≡ true
ActIn b roots (Send job left) marks = (roots (root_of b (job_bus job)) ≡ true) × MarksIn b roots marks
ActIn b roots (Shift job) marks = (roots (root_of b (job_bus job)) ≡ true) × MarksIn b roots marks
ActIn b roots (Settle verdict) marks = Unit {0}

-- all that a walk looks at and does is on these roots, whatever its looks find and its steps give
abbrev pub StaysIn : BoardView → (ℕ → Bool) → WalkTree → Type 0
StaysIn b roots Ends = Unit {0}
StaysIn b roots (Look ask next) = (roots (root_of b (ask_bus ask)) ≡ true) × ((m : Option ℕ) → StaysIn b roots (next m))
StaysIn b roots (Then act note next) = ActIn b roots act note.marks × ((out : ActOutcome) → StaysIn b roots (next out))

-- a group asks for what all ask for, of its own callers, on its own roots; nobody else asks for anything there
pub record IsGroup (b : BoardView) (all own : Asks) (roots who : ℕ → Bool) : Type 0 where
  pub same : (c : ℕ) (rs : List Reply) → who c ≡ true → all c rs ≡ own c rs
  pub rooted : (c : ℕ) (rs : List Reply) (t : TransferView) → own c rs ≡ Some t → t.bus < buses b → roots (root_of b t.bus) ≡ true
  pub nobody : (c : ℕ) (rs : List Reply) → who c ≡ false → own c rs ≡ None

-- of these callers and on these roots all stands alike
pub record IsAlike (b : BoardView) (roots who : ℕ → Bool) (n m : Now) : Type 0 where
  pub walk : (c : ℕ) → who c ≡ true → n.walk c ≡ m.walk c
  pub held : (c : ℕ) → who c ≡ true → n.held c ≡ m.held c
  pub settled : (c : ℕ) → who c ≡ true → n.settled c ≡ m.settled c
  pub got : (c : ℕ) → who c ≡ true → n.got c ≡ m.got c
  pub cut : (c : ℕ) → who c ≡ true → n.cut c ≡ m.cut c
  pub holder : (l : LockId) → roots (root_of_lock b l) ≡ true → n.holder l ≡ m.holder l
  pub slot : (p : ℕ) → roots (root_of b p) ≡ true → n.slot p ≡ m.slot p
  pub worlds : (r : ℕ) → roots r ≡ true → n.worlds r ≡ m.worlds r
  pub calls : (r : ℕ) → roots r ≡ true → n.calls r ≡ m.calls r
  pub inside : (r : ℕ) → roots r ≡ true → n.inside r ≡ m.inside r

-- two choices have nothing in common
abbrev pub AreApart : (ℕ → Bool) → (ℕ → Bool) → Type 0
AreApart f g = (i : ℕ) → g i ≡ true → f i ≡ false

-- a group's own journal stands behind a past: each entry might come there, of the group all is as its own journal tells, and
-- what is apart from it is as it was
pub record GoesOn (b : BoardView) (callers : ℕ) (all own : Asks) (roots who : ℕ → Bool) (before mine : List Entry) : Type 0 where
  pub stepwise : IsStepwise b callers all (mine ++ before)
  pub alike : IsAlike b roots who (now b all (mine ++ before)) (now b own mine)
  pub due : (now b all (mine ++ before)).due ≡ (now b own mine).due
  pub kept : (others whose : ℕ → Bool) (x : Now) → AreApart roots others → AreApart who whose
      → IsAlike b others whose (now b all before) x → IsAlike b others whose (now b all (mine ++ before)) x

-- a group with its own journal, the oldest entry first
pub record Part : Type 0 where
  pub own : Asks
  pub roots : ℕ → Bool
  pub who : ℕ → Bool
  pub journal : List Entry

-- the journals of several groups, one after the other
abbrev pub joined : List Part → List Entry
joined [] = []
joined (p ∷ ps) = p.journal ++ joined ps

-- a group's journal might come by itself, and no settle is due in it
pub record IsPart (b : BoardView) (callers : ℕ) (all : Asks) (p : Part) : Type 0 where
  pub group : IsGroup b all p.own p.roots p.who
  pub stepwise : IsStepwise b callers p.own (reverse p.journal)
  pub rests : (now b p.own (reverse p.journal)).due ≡ None

-- a group has no root and no caller in common with any of these
abbrev pub IsApartFrom : Part → List Part → Type 0
IsApartFrom p [] = Unit {0}
IsApartFrom p (q ∷ qs) = (AreApart p.roots q.roots × AreApart p.who q.who) × IsApartFrom p qs

-- no two of them have
abbrev pub ArePartsApart : List Part → Type 0
ArePartsApart [] = Unit {0}
ArePartsApart (p ∷ ps) = IsApartFrom p ps × ArePartsApart ps

abbrev pub AreParts : BoardView → ℕ → Asks → List Part → Type 0
AreParts b callers all [] = Unit {0}
AreParts b callers all (p ∷ ps) = IsPart b callers all p × AreParts b callers all ps

-- of each of them all stands as its own journal tells
abbrev pub AreAlikeIn : BoardView → Now → List Part → Type 0
AreAlikeIn b n [] = Unit {0}
AreAlikeIn b n (p ∷ ps) = IsAlike b p.roots p.who n (now b p.own (reverse p.journal)) × AreAlikeIn b n ps

-- each entry is of one of the group's callers
abbrev pub IsOwn : Part → Type 0
IsOwn p = Everywhere (λ e before. p.who (caller_of e) ≡ true) (reverse p.journal)

abbrev pub AreOwn : List Part → Type 0
AreOwn [] = Unit {0}
AreOwn (p ∷ ps) = IsOwn p × AreOwn ps

-- the journals one after the other are one: each entry might come where it stands, no settle is due, and of each group all
-- stands as its own journal tells
pub record AreJoined (b : BoardView) (callers : ℕ) (all : Asks) (ps : List Part) : Type 0 where
  pub stepwise : IsStepwise b callers all (reverse (joined ps))
  pub rests : (now b all (reverse (joined ps))).due ≡ None
  pub alike : AreAlikeIn b (now b all (reverse (joined ps))) ps
  pub own : AreOwn ps
