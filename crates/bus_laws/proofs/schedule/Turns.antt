-- A journal and one step more: its steps are those before and that one.
use Rattle.bus_laws.proofs.Cited.{◌≡◌, ℕ, Bool, true, false, cond, ◌&&◌, List, [], ◌∷◌, ◌++◌, Option, Some, None, refl, sym, ◌∙◌, ap, subst}
use Rattle.bus_laws.proofs.Cited.{inl, inr, reverse, ◌==◌, eq-eqb, eqb-true, LockId, Entry, End, BoardView, root_of, IsTree, IsPlainBoard}
use Rattle.bus_laws.proofs.Cited.{Asks, Job, Act, Take, Free, Send, Shift, Settle, Note, WalkTree, Then, job_bus, is_over, first_act}
use Rattle.bus_laws.proofs.Cited.{first_note, caller_of, is_stepping, Now, current, now, step, is_due, sent_by, lined_by, begun, May}
use Rattle.bus_laws.proofs.Cited.{IsStepwise, Turn, turns, LinesAreLocked, AsksForMessages, Runs, InLocks, CallerStands, Stands, ahead}
use Rattle.bus_laws.proofs.Cited.{IsTurn}
use mathlib.Core.List.{reverse-cons}
use Rattle.i2c_base.specs.declared.ids.LockId.TheVariants as lock
use Rattle.i2c_base.specs.declared.entry.Entry.TheVariants as entry
use Rattle.bus_spec.specs.Schedule.{turn_of, with_entry, joins, is_settle}
use Rattle.bus_laws.proofs.past.Laws.{past-stands}
use Rattle.bus_laws.proofs.past.StandsFacts.{over_ends, current-stands}
use Rattle.bus_laws.proofs.past.StandsEntries.{first_is}
use Rattle.bus_laws.specs.Coming.{IsOne, IsTwo}

-- an entry before steps takes the first of them in
abbrev joins_head : Entry → List Turn → Bool
joins_head e [] = false
joins_head e (t ∷ ts) = joins e t.entries t.caller

-- .. so does the last entry of a list
abbrev last_joins : List Entry → List Turn → Bool
last_joins [] ts = false
last_joins (e ∷ []) ts = joins_head e ts
last_joins (e ∷ x ∷ es) ts = last_joins (x ∷ es) ts

with_apart : (e : Entry) (ts : List Turn) → joins_head e ts ≡ false → with_entry e ts ≡ turn_of e ∷ ts
with_apart e [] h = refl
with_apart e (t ∷ ts) h = ap (λ (x : Bool). cond x ((record { caller = caller_of e; entries = e ∷ t.entries }) ∷ ts) (turn_of e ∷ t ∷ ts)) h

with_front : (e : Entry) (t : Turn) (ts us : List Turn) → with_entry e ((t ∷ ts) ++ us) ≡ with_entry e (t ∷ ts) ++ us
with_front e t ts us = by (joins e t.entries t.caller)
  where
    by : (x : Bool) → cond x ((record { caller = caller_of e; entries = e ∷ t.entries }) ∷ (ts ++ us)) (turn_of e ∷ t ∷ (ts ++ us))
        ≡ cond x ((record { caller = caller_of e; entries = e ∷ t.entries }) ∷ ts) (turn_of e ∷ t ∷ ts) ++ us
    by true = refl
    by false = refl

some_turn : (e : Entry) (ts : List Turn) → (t : Turn) × (us : List Turn) × (with_entry e ts ≡ t ∷ us)
some_turn e [] = (turn_of e, [], refl)
some_turn e (t ∷ ts) = by (joins e t.entries t.caller)
  where
    by : (x : Bool) → (u : Turn) × (us : List Turn)
        × (cond x ((record { caller = caller_of e; entries = e ∷ t.entries }) ∷ ts) (turn_of e ∷ t ∷ ts) ≡ u ∷ us)
    by true = (record { caller = caller_of e; entries = e ∷ t.entries }, ts, refl)
    by false = (turn_of e, t ∷ ts, refl)

turns_apart : (es fs : List Entry) → last_joins es (turns fs) ≡ false → turns (es ++ fs) ≡ turns es ++ turns fs
turns_apart [] fs h = refl
turns_apart (e ∷ []) fs h = with_apart e (turns fs) h
turns_apart (e ∷ x ∷ es) fs h =
    let w = some_turn x (turns es) in
    ap (with_entry e) (turns_apart (x ∷ es) fs h)
    ∙ subst (λ (ts : List Turn). with_entry e (ts ++ turns fs) ≡ with_entry e ts ++ turns fs) (sym w.2) (with_front e w.0 w.1 (turns fs))

last_at_end : (es : List Entry) (e : Entry) (ts : List Turn) → last_joins (es ++ e ∷ []) ts ≡ joins_head e ts
last_at_end [] e ts = refl
last_at_end (x ∷ []) e ts = refl
last_at_end (x ∷ y ∷ es) e ts = last_at_end (y ∷ es) e ts

-- what stands in front of some entries changes nothing of their last
last_behind : (front : List Entry) (e : Entry) (es : List Entry) (ts : List Turn) → last_joins (front ++ e ∷ es) ts ≡ last_joins (e ∷ es) ts
last_behind [] e es ts = refl
last_behind (x ∷ []) e es ts = refl
last_behind (x ∷ y ∷ front) e es ts = last_behind (y ∷ front) e es ts

last_apart : (front added : List Entry) (ts : List Turn) → last_joins (front ++ added) ts ≡ false → last_joins added ts ≡ false
last_apart front [] ts h = refl
last_apart front (e ∷ es) ts h = sym (last_behind front e es ts) ∙ h

all_true : (x y z : Bool) → x ≡ true → y ≡ true → z ≡ true → (x && (y && z)) ≡ true
all_true true true true a b c = refl
all_true true true false a b c = c
all_true true false z a b c = absurd (let f : false ≡ true = b in cc)
all_true false y z a b c = absurd (let f : false ≡ true = a in cc)

not_all : (x y z : Bool) → (x ≡ true → y ≡ true → z ≡ true → ⊥) → (x && (y && z)) ≡ false
not_all false y z never = refl
not_all true false z never = refl
not_all true true false never = refl
not_all true true true never = absurd (never refl refl refl)

-- a step by itself
turn_alone : (b : BoardView) (callers : ℕ) (asks : Asks) (past : List Entry) (t : Turn) → IsTurn b callers asks past t
    → turns t.entries ≡ t ∷ []
turn_alone b callers asks past t is = elim is [ inl one ↦ single one | inr two ↦ double two ]
  where
    single : IsOne b callers asks past t → turns t.entries ≡ t ∷ []
    single one =
        ap turns one.entries
        ∙ ap (λ (c : ℕ). (record { caller = c; entries = one.entry ∷ [] }) ∷ []) one.own
        ∙ ap (λ (es : List Entry). (record { caller = t.caller; entries = es }) ∷ []) (sym one.entries)

    double : IsTwo b callers asks past t → turns t.entries ≡ t ∷ []
    double two =
        let joined : joins two.entry (two.settle ∷ []) (caller_of two.settle) ≡ true =
        all_true (is_stepping two.entry) (is_settle two.settle) (caller_of two.entry == caller_of two.settle) two.steps two.settles
        (eq-eqb (caller_of two.entry) (caller_of two.settle) (two.own ∙ sym two.own_settle)) in
        ap turns two.entries
        ∙ ap (λ (x : Bool). cond x ((record { caller = caller_of two.entry; entries = two.entry ∷ two.settle ∷ [] }) ∷ [])
        (turn_of two.entry ∷ turn_of two.settle ∷ [])) joined
        ∙ ap (λ (c : ℕ). (record { caller = c; entries = two.entry ∷ two.settle ∷ [] }) ∷ []) two.own
        ∙ ap (λ (es : List Entry). (record { caller = t.caller; entries = es }) ∷ []) (sym two.entries)

first_entry : (b : BoardView) (callers : ℕ) (asks : Asks) (past : List Entry) (t : Turn) → IsTurn b callers asks past t
    → (f : Entry) × (rest : List Entry) × (t.entries ≡ f ∷ rest)
    × (is_settle f ≡ true → is_due (first_act (ahead b asks (now b asks past) t.caller)) ≡ true)
first_entry b callers asks past t is =
    elim is [
      | inl one ↦ (one.entry, [], one.entries, one.alone)
      | inr two ↦ (two.entry, two.settle ∷ [], two.entries, λ e. absurd (apart two.entry two.steps e))
    ]
  where
    apart : (e : Entry) → is_stepping e ≡ true → is_settle e ≡ true → ⊥
    apart (entry.Take c l) s t = (let f : false ≡ true = s in cc)
    apart (entry.Free c l) s t = (let f : false ≡ true = s in cc)
    apart (entry.Settle c r cut) s t = (let f : false ≡ true = s in cc)
    apart (entry.Message c bus why part parts addr reading bytes heard e) s t = (let f : false ≡ true = t in cc)
    apart (entry.Line c mux level failed) s t = (let f : false ≡ true = t in cc)

sent_held : (b : BoardView) (n : Now) (c : ℕ) (o : Option Act) (note : Note) (reading : Bool) (bytes : List ℕ) (e : End)
    → (sent_by b n c o note reading bytes e).held c ≡ n.held c
sent_held b n c None note reading bytes e = refl
sent_held b n c (Some (Take l)) note reading bytes e = refl
sent_held b n c (Some (Free l)) note reading bytes e = refl
sent_held b n c (Some (Send job left)) note reading bytes e = refl
sent_held b n c (Some (Shift job)) note reading bytes e = refl
sent_held b n c (Some (Settle v)) note reading bytes e = refl

lined_held : (b : BoardView) (n : Now) (c : ℕ) (o : Option Act) (note : Note) (failed : Bool)
    → (lined_by b n o note failed).held c ≡ n.held c
lined_held b n c None note failed = refl
lined_held b n c (Some (Take l)) note failed = refl
lined_held b n c (Some (Free l)) note failed = refl
lined_held b n c (Some (Send job left)) note failed = refl
lined_held b n c (Some (Shift job)) note failed = refl
lined_held b n c (Some (Settle v)) note failed = refl

module _ (b : BoardView) (tree : IsTree b) (plain : IsPlainBoard b) (lines : LinesAreLocked b) (asks : Asks)
    (some : AsksForMessages asks) where
  -- whoever has a lock has a walk under way
  goes_on : (m : Now) → Stands b m → (c : ℕ) (l : LockId) → InLocks l (m.held c) → is_over (m.walk c) ≡ false
  goes_on m stands c l own = by (is_over (m.walk c)) refl
    where
      is : CallerStands b (m.held c) (m.walk c) m.slot
      is = stands.callers c

      by : (x : Bool) → is_over (m.walk c) ≡ x → is_over (m.walk c) ≡ false
      by false e = e
      by true e =
          let none : m.held c ≡ [] = subst (λ (w : WalkTree). Runs b is.whose (m.held c) is.view w) (over_ends (m.walk c) e) is.runs in
          absurd (subst (λ (ls : List LockId). InLocks l ls) none own)

  -- who sends or switches has its root's lock
  sends_locked : (n : Now) → Stands b n → (c : ℕ) (job : Job) (left : ℕ) → first_act (current b asks n c) ≡ Some (Send job left)
      → InLocks (lock.Bus (root_of b (job_bus job))) (n.held c)
  sends_locked n stands c job left first =
      let cur = current-stands b tree lines asks some n c stands in
      let at = first_is (current b asks n c) (Send job left) first in
      let runs : Runs b cur.whose (n.held c) cur.view (Then (Send job left) at.0 at.1) = subst
      (λ (w : WalkTree). Runs b cur.whose (n.held c) cur.view w) at.2 cur.runs in
      runs.0.rooted

  shifts_locked : (n : Now) → Stands b n → (c : ℕ) (job : Job) → first_act (current b asks n c) ≡ Some (Shift job)
      → InLocks (lock.Bus (root_of b (job_bus job))) (n.held c)
  shifts_locked n stands c job first =
      let cur = current-stands b tree lines asks some n c stands in
      let at = first_is (current b asks n c) (Shift job) first in
      let runs : Runs b cur.whose (n.held c) cur.view (Then (Shift job) at.0 at.1) = subst
      (λ (w : WalkTree). Runs b cur.whose (n.held c) cur.view w) at.2 cur.runs in
      runs.0.rooted

  by_due : (m : Now) (c : ℕ) → is_over (m.walk c) ≡ false → m.due ≡ cond (is_due (first_act (m.walk c))) (Some c) None → m.due ≡ None
      → is_due (first_act (ahead b asks m c)) ≡ false
  by_due m c going is none =
      ap (λ (x : Bool). is_due (first_act (cond x (begun b (asks c (m.settled c))) (m.walk c)))) going
      ∙ by (is_due (first_act (m.walk c))) (sym is ∙ none)
    where
      by : (x : Bool) → cond x (Some c) None ≡ None → x ≡ false
      by false e = refl
      by true e = absurd (let f : Some c ≡ None = e in cc)

  -- BEHIND A MESSAGE whose settle isn't due, its caller's next step is no settle
  pub quiet-behind : (callers : ℕ) (n : Now) (e : Entry) → May b callers asks n e → Stands b n → Stands b (step b asks n e)
      → is_stepping e ≡ true → (step b asks n e).due ≡ None
      → is_due (first_act (ahead b asks (step b asks n e) (caller_of e))) ≡ false
  quiet-behind callers n (entry.Take c l) may was stands s none = absurd (let f : false ≡ true = s in cc)
  quiet-behind callers n (entry.Free c l) may was stands s none = absurd (let f : false ≡ true = s in cc)
  quiet-behind callers n (entry.Settle c r cut) may was stands s none = absurd (let f : false ≡ true = s in cc)
  quiet-behind callers n (entry.Message c bus why part parts addr reading bytes heard e) may was stands s none =
      let m : Now = step b asks n (entry.Message c bus why part parts addr reading bytes heard e) in
      let l : LockId = lock.Bus (root_of b (job_bus may.2.0)) in
      let own : InLocks l (m.held c) = subst (λ (ls : List LockId). InLocks l ls)
      (sym (sent_held b n c (first_act (current b asks n c)) (first_note (current b asks n c)) reading bytes e))
      (sends_locked n was c may.2.0 may.2.1 may.2.2) in
      by_due m c (goes_on m stands c l own) refl none
  quiet-behind callers n (entry.Line c mux level failed) may was stands s none =
      let m : Now = step b asks n (entry.Line c mux level failed) in
      let l : LockId = lock.Bus (root_of b (job_bus may.2.0)) in
      let own : InLocks l (m.held c) = subst (λ (ls : List LockId). InLocks l ls)
      (sym (lined_held b n c (first_act (current b asks n c)) (first_note (current b asks n c)) failed))
      (shifts_locked n was c may.2.0 may.2.1) in
      by_due m c (goes_on m stands c l own) refl none

  apart : (callers : ℕ) (past : List Entry) → IsStepwise b callers asks past → (now b asks past).due ≡ None → (t : Turn)
      → IsTurn b callers asks past t → last_joins (reverse past) (turns t.entries) ≡ false
  apart callers [] steps none t is = refl
  apart callers (e ∷ past) steps none t is =
      let f = first_entry b callers asks (e ∷ past) t is in
      let joined : joins e t.entries t.caller ≡ false =
      ap (λ (es : List Entry). joins e es t.caller) f.2
      ∙ not_all (is_stepping e) (is_settle f.0) (caller_of e == t.caller)
      (λ s u v.
      let same : caller_of e ≡ t.caller = eqb-true (caller_of e) t.caller v in
      let still : is_due (first_act (ahead b asks (now b asks (e ∷ past)) (caller_of e))) ≡ false =
      quiet-behind callers (now b asks past) e steps.0 (past-stands b tree plain lines asks some callers past steps.1)
      (past-stands b tree plain lines asks some callers (e ∷ past) steps) s none in
      let both : false ≡ true = sym still ∙ ap (λ (c : ℕ). is_due (first_act (ahead b asks (now b asks (e ∷ past)) c))) same ∙ f.3 u in
      cc) in
      ap (λ (es : List Entry). last_joins es (turns t.entries)) (reverse-cons e past)
      ∙ last_at_end (reverse past) e (turns t.entries)
      ∙ ap (joins_head e) (turn_alone b callers asks (e ∷ past) t is)
      ∙ joined

  -- ONE STEP MORE, after entries that stand in front of it
  pub turns-behind : (callers : ℕ) (past front added : List Entry) → reverse past ≡ front ++ added → IsStepwise b callers asks past
      → (now b asks past).due ≡ None → (t : Turn) → IsTurn b callers asks past t → turns (added ++ t.entries) ≡ turns added ++ t ∷ []
  turns-behind callers past front added is steps none t turn =
      turns_apart added t.entries (last_apart front added (turns t.entries)
      (subst (λ (es : List Entry). last_joins es (turns t.entries) ≡ false) is (apart callers past steps none t turn)))
      ∙ ap (λ (ts : List Turn). turns added ++ ts) (turn_alone b callers asks past t turn)

  pub turns-more : (callers : ℕ) (past : List Entry) → IsStepwise b callers asks past → (now b asks past).due ≡ None → (t : Turn)
      → IsTurn b callers asks past t
      → turns (reverse past ++ t.entries) ≡ turns (reverse past) ++ t ∷ []
  turns-more callers past steps none t is = turns-behind callers past [] (reverse past) refl steps none t is
