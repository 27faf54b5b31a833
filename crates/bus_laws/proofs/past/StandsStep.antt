-- One more entry keeps what stands: a step of one caller, and all the others as they were.
use Rattle.bus_laws.proofs.Cited.{◌≡◌, ℕ, zero, suc, Bool, true, false, cond, List, [], ◌∷◌, Option, Some, None, refl, sym, ◌∙◌, ap, subst}
use Rattle.bus_laws.proofs.Cited.{◌⊎◌, inl, inr, eqb_tells, LockId, BoardView, TransferView, Hop, World, changed_at, Mark, Job, Call}
use Rattle.bus_laws.proofs.Cited.{Select, SwitchOff, off_bus, off_mux, ActOutcome, Passed, Sent, Lined, WalkTree, is_arbitrator, Slots, At}
use Rattle.bus_laws.proofs.Cited.{MuxSlot, Clean, Marked, polled_slot, turned_at, set_marks, select_told, after_job, after_select}
use Rattle.bus_laws.proofs.Cited.{after_off, is_lock, IsOpenOn, InLocks, IsRest, IsOfMux, FindsOpen, FindsSelect, Finds, MayFail, Owns}
use Rattle.bus_laws.proofs.Cited.{MaySend, MayShift, CallerStands, StandsIn, IsOnce, WorldTold}
use Rattle.i2c_base.specs.declared.ids.LockId.TheVariants as lock
use Rattle.i2c_base.specs.declared.entry.End.TheVariants as end
use Rattle.bus_spec.specs.Slots as slots
use Rattle.bus_laws.proofs.tree.Slots.{changed-other, turned-other, turned-along, set_marks-along}

-- the test of two locks tells whether they are one
pub lock_tells : (l k : LockId) → ((is_lock l k ≡ true) × (l ≡ k)) ⊎ ((is_lock l k ≡ false) × (l ≡ k → ⊥))
lock_tells (lock.Bus r) (lock.Bus s) =
    elim (eqb_tells r s) [ inl h ↦ inl (h.0, ap lock.Bus h.1) | inr h ↦ inr (h.0, λ e. h.1 (let f : lock.Bus r ≡ lock.Bus s = e in cc)) ]
lock_tells (lock.Bus r) (lock.Mux q) = inr (refl, λ e. let f : lock.Bus r ≡ lock.Mux q = e in cc)
lock_tells (lock.Mux p) (lock.Bus s) = inr (refl, λ e. let f : lock.Mux p ≡ lock.Bus s = e in cc)
lock_tells (lock.Mux p) (lock.Mux q) =
    elim (eqb_tells p q) [ inl h ↦ inl (h.0, ap lock.Mux h.1) | inr h ↦ inr (h.0, λ e. h.1 (let f : lock.Mux p ≡ lock.Mux q = e in cc)) ]

pub at_same : {X : Type 0} (f : ℕ → X) (c : ℕ) (x : X) → changed_at f c x c ≡ x
at_same f c x =
    elim (eqb_tells c c) [ inl h ↦ ap (λ (t : Bool). cond t x (f c)) h.0 | inr h ↦ absurd (h.1 refl) ]

pub at_other : {X : Type 0} (f : ℕ → X) (c : ℕ) (x : X) (d : ℕ) → (d ≡ c → ⊥) → changed_at f c x d ≡ f d
at_other f c x d ne =
    elim (eqb_tells d c) [ inl h ↦ absurd (ne h.1) | inr h ↦ ap (λ (t : Bool). cond t x (f d)) h.0 ]

-- a step changes what is known only on buses whose locks its caller holds
marks_off_held : (b : BoardView) (held : List LockId) (v : Slots) (ms : List Mark) (p : ℕ) → MayFail b ms held v
    → (InLocks (lock.Mux p) held → ⊥)
    → (w : Slots) → set_marks ms w p ≡ w p
marks_off_held b held v [] p fail off w = refl
marks_off_held b held v (m ∷ ms) p fail off w =
    changed-other (set_marks ms w) m.on p (turned_at (w m.on) m.mux (Marked m.mux) None)
    (λ e. off (subst (λ (q : ℕ). InLocks (lock.Mux q) held) (sym e) fail.0.locked))
    ∙ marks_off_held b held v ms p fail.1 off w

module _ (b : BoardView) (held : List LockId) (v : Slots) (marks : List Mark) (p : ℕ) (fail : MayFail b marks held v)
    (off : InLocks (lock.Mux p) held → ⊥) where
  own_off : (on mux : ℕ) (s : MuxSlot) (c : Option ℕ) (w : Slots) → InLocks (lock.Mux on) held → slots.turned w on mux s c p ≡ w p
  own_off on mux s c w locked = turned-other w on mux p s c (λ e. off (subst (λ (q : ℕ). InLocks (lock.Mux q) held) (sym e) locked))

  told_off : (h : Hop) (left : ℕ) (bytes : List ℕ) (w : Slots) → InLocks (lock.Mux h.on) held → select_told h left bytes w p ≡ w p
  told_off h zero bytes w locked = own_off h.on h.mux Clean (Some h.channel) w locked
  told_off h (suc left) bytes w locked = own_off h.on h.mux (polled_slot h left bytes) None w locked

  select_off : (h : Hop) (left : ℕ) (out : ActOutcome) (w : Slots) → InLocks (lock.Mux h.on) held → after_select h left marks out w p ≡ w p
  select_off h left (Sent end.Ok bytes) w locked = told_off h left bytes w locked
  select_off h left (Sent end.Nack bytes) w locked = own_off h.on h.mux Clean None w locked
  select_off h left (Sent end.Slow bytes) w locked = own_off h.on h.mux Clean None w locked
  select_off h left (Sent end.Refused bytes) w locked = own_off h.on h.mux Clean None w locked
  select_off h left (Sent end.Proto bytes) w locked = own_off h.on h.mux Clean None w locked
  select_off h left (Sent (end.Cut q) bytes) w locked = marks_off_held b held v marks p fail off w
  select_off h left (Lined true) w locked = marks_off_held b held v marks p fail off w
  select_off h left (Lined false) w locked = own_off h.on h.mux Clean (Some h.channel) w locked
  select_off h left Passed w locked = refl

  off_elsewhere : (on mux : ℕ) (out : ActOutcome) (w : Slots) → InLocks (lock.Mux on) held → after_off on mux marks out w p ≡ w p
  off_elsewhere on mux (Sent end.Ok bytes) w locked = own_off on mux Clean None w locked
  off_elsewhere on mux (Sent end.Nack bytes) w locked = own_off on mux Clean None w locked
  off_elsewhere on mux (Sent end.Slow bytes) w locked = own_off on mux Clean None w locked
  off_elsewhere on mux (Sent end.Refused bytes) w locked = own_off on mux Clean None w locked
  off_elsewhere on mux (Sent end.Proto bytes) w locked = own_off on mux Clean None w locked
  off_elsewhere on mux (Sent (end.Cut q) bytes) w locked = marks_off_held b held v marks p fail off w
  off_elsewhere on mux (Lined true) w locked = marks_off_held b held v marks p fail off w
  off_elsewhere on mux (Lined false) w locked = own_off on mux Clean None w locked
  off_elsewhere on mux Passed w locked = refl

  pub job_off : (job : Job) (left : ℕ) (out : ActOutcome) (w : Slots) → Owns job marks held → after_job job left marks out w p ≡ w p
  job_off (Call bus ms) left out w owns = refl
  job_off (Select h) left out w owns = select_off h left out w owns.0
  job_off (SwitchOff off) left out w owns = off_elsewhere (off_bus off) (off_mux off) out w owns.0

-- and is the same step where what is known is the same
told_same : (h : Hop) (left : ℕ) (bytes : List ℕ) (v w : Slots) (p : ℕ) → v p ≡ w p
    → select_told h left bytes v p ≡ select_told h left bytes w p
told_same h zero bytes v w p e = turned-along v w h.on h.mux p Clean (Some h.channel) e
told_same h (suc left) bytes v w p e = turned-along v w h.on h.mux p (polled_slot h left bytes) None e

select_same : (h : Hop) (left : ℕ) (marks : List Mark) (out : ActOutcome) (v w : Slots) (p : ℕ) → v p ≡ w p
    → after_select h left marks out v p ≡ after_select h left marks out w p
select_same h left marks (Sent end.Ok bytes) v w p e = told_same h left bytes v w p e
select_same h left marks (Sent end.Nack bytes) v w p e = turned-along v w h.on h.mux p Clean None e
select_same h left marks (Sent end.Slow bytes) v w p e = turned-along v w h.on h.mux p Clean None e
select_same h left marks (Sent end.Refused bytes) v w p e = turned-along v w h.on h.mux p Clean None e
select_same h left marks (Sent end.Proto bytes) v w p e = turned-along v w h.on h.mux p Clean None e
select_same h left marks (Sent (end.Cut q) bytes) v w p e = set_marks-along marks v w p e
select_same h left marks (Lined true) v w p e = set_marks-along marks v w p e
select_same h left marks (Lined false) v w p e = turned-along v w h.on h.mux p Clean (Some h.channel) e
select_same h left marks Passed v w p e = e

off_same : (on mux : ℕ) (marks : List Mark) (out : ActOutcome) (v w : Slots) (p : ℕ) → v p ≡ w p
    → after_off on mux marks out v p ≡ after_off on mux marks out w p
off_same on mux marks (Sent end.Ok bytes) v w p e = turned-along v w on mux p Clean None e
off_same on mux marks (Sent end.Nack bytes) v w p e = turned-along v w on mux p Clean None e
off_same on mux marks (Sent end.Slow bytes) v w p e = turned-along v w on mux p Clean None e
off_same on mux marks (Sent end.Refused bytes) v w p e = turned-along v w on mux p Clean None e
off_same on mux marks (Sent end.Proto bytes) v w p e = turned-along v w on mux p Clean None e
off_same on mux marks (Sent (end.Cut q) bytes) v w p e = set_marks-along marks v w p e
off_same on mux marks (Lined true) v w p e = set_marks-along marks v w p e
off_same on mux marks (Lined false) v w p e = turned-along v w on mux p Clean None e
off_same on mux marks Passed v w p e = e

pub job_same : (job : Job) (left : ℕ) (marks : List Mark) (out : ActOutcome) (v w : Slots) (p : ℕ) → v p ≡ w p
    → after_job job left marks out v p ≡ after_job job left marks out w p
job_same (Call bus ms) left marks out v w p e = e
job_same (Select h) left marks out v w p e = select_same h left marks out v w p e
job_same (SwitchOff off) left marks out v w p e = off_same (off_bus off) (off_mux off) marks out v w p e

-- what a caller knows is so, so what it may do from what it knows it may do
module _ (b : BoardView) (held : List LockId) (v w : Slots) (agree : (p : ℕ) → InLocks (lock.Mux p) held → v p ≡ w p) where
  fail_known : (ms : List Mark) → MayFail b ms held v → MayFail b ms held w
  fail_known [] fail = tt
  fail_known (m ∷ ms) fail = (
    record {
      locked = fail.0.locked;
      at_home = fail.0.at_home;
      forgets = subst (λ (x : At). IsOfMux m.mux x.slot) (agree m.on fail.0.locked) fail.0.forgets;
    },
    fail_known ms fail.1,
  )

  finds_known : (job : Job) (left : ℕ) (marks : List Mark) → Owns job marks held → Finds b job left v → Finds b job left w
  finds_known (Call bus ms) left marks owns f = tt
  finds_known (Select h) left marks owns f =
      (subst (λ (x : At). FindsSelect (is_arbitrator h.kind) h left x) (agree h.on owns.0) f.0, f.1, f.2)
  finds_known (SwitchOff off) left marks owns f = (subst (λ (x : At). FindsOpen off x.slot) (agree (off_bus off) owns.0) f.0, f.1, f.2)

  pub send_known : (whose : TransferView) (job : Job) (left : ℕ) (marks : List Mark) → MaySend b whose job left marks held v
      → MaySend b whose job left marks held w
  send_known whose job left marks may =
      record {
        reached = λ g a. (subst (λ (x : At). IsOpenOn b g x) (agree g.on (may.reached g a).1) (may.reached g a).0, (may.reached g a).1);
        rooted = may.rooted;
        finds = finds_known job left marks may.owns may.finds;
        owns = may.owns;
        may_fail = fail_known marks may.may_fail;
        granted = may.granted;
        by_message = may.by_message;
      }

  pub shift_known : (job : Job) (marks : List Mark) → MayShift b job marks held v → MayShift b job marks held w
  shift_known job marks may =
      record {
        by_line = may.by_line;
        rooted = may.rooted;
        finds = finds_known job zero marks may.owns may.finds;
        owns = may.owns;
        may_fail = fail_known marks may.may_fail;
      }

-- one caller's locks, walk and bus are new, all the others' as they were
module _ (b : BoardView) (walk : ℕ → WalkTree) (held : ℕ → List LockId) (holder : LockId → Option ℕ) (slot : Slots) (worlds : ℕ → World)
    (old : StandsIn b walk held holder slot worlds) (c : ℕ) where
  pub record Turn (walk2 : ℕ → WalkTree) (held2 : ℕ → List LockId) (holder2 : LockId → Option ℕ) (slot2 : Slots) (worlds2 : ℕ
      → World) : Type 0 where
    pub own : CallerStands b (held2 c) (walk2 c) slot2
    pub walks : (d : ℕ) → (d ≡ c → ⊥) → walk2 d ≡ walk d
    pub locks : (d : ℕ) → (d ≡ c → ⊥) → held2 d ≡ held d
    pub slots : (d p : ℕ) → (d ≡ c → ⊥) → InLocks (lock.Mux p) (held d) → slot2 p ≡ slot p
    pub own_holds : (l : LockId) → InLocks l (held2 c) → holder2 l ≡ Some c
    pub holds : (d : ℕ) (l : LockId) → (d ≡ c → ⊥) → InLocks l (held d) → holder2 l ≡ Some d
    pub own_has : (l : LockId) → holder2 l ≡ Some c → InLocks l (held2 c)
    pub has : (d : ℕ) (l : LockId) → (d ≡ c → ⊥) → holder2 l ≡ Some d → InLocks l (held d)
    pub own_once : IsOnce (held2 c)
    pub shut : (p : ℕ) → holder2 (lock.Mux p) ≡ None → IsRest b p (slot2 p)
    pub told : WorldTold b slot2 worlds2

  pub turned : (walk2 : ℕ → WalkTree) (held2 : ℕ → List LockId) (holder2 : LockId → Option ℕ) (slot2 : Slots) (worlds2 : ℕ → World)
      → Turn walk2 held2 holder2 slot2 worlds2 → StandsIn b walk2 held2 holder2 slot2 worlds2
  turned walk2 held2 holder2 slot2 worlds2 turn =
      record {
        callers = λ d. elim (eqb_tells d c) [
          | inl h ↦ subst (λ (i : ℕ). CallerStands b (held2 i) (walk2 i) slot2) (sym h.1) turn.own
          | inr h ↦ subst (λ (w : WalkTree). CallerStands b (held2 d) w slot2) (sym (turn.walks d h.1))
              (subst (λ (ls : List LockId). CallerStands b ls (walk d) slot2) (sym (turn.locks d h.1))
              (record {
                whose = (old.callers d).whose;
                view = (old.callers d).view;
                runs = (old.callers d).runs;
                agree = λ p i. (old.callers d).agree p i ∙ sym (turn.slots d p h.1 i);
              }))
        ];
        holds = λ d l i. elim (eqb_tells d c) [
          | inl h ↦ turn.own_holds l (subst (λ (j : ℕ). InLocks l (held2 j)) h.1 i) ∙ ap Some (sym h.1)
          | inr h ↦ turn.holds d l h.1 (subst (λ (ls : List LockId). InLocks l ls) (turn.locks d h.1) i)
        ];
        has = λ d l e. elim (eqb_tells d c) [
          | inl h ↦ subst (λ (j : ℕ). InLocks l (held2 j)) (sym h.1) (turn.own_has l (e ∙ ap Some h.1))
          | inr h ↦ subst (λ (ls : List LockId). InLocks l ls) (sym (turn.locks d h.1)) (turn.has d l h.1 e)
        ];
        once = λ d. elim (eqb_tells d c) [
          | inl h ↦ subst (λ (j : ℕ). IsOnce (held2 j)) (sym h.1) turn.own_once
          | inr h ↦ subst (λ (ls : List LockId). IsOnce ls) (sym (turn.locks d h.1)) (old.once d)
        ];
        shut = turn.shut;
        told = turn.told;
      }

  -- two callers share no lock
  pub apart_of : (d : ℕ) (l : LockId) → (d ≡ c → ⊥) → InLocks l (held d) → InLocks l (held c) → ⊥
  apart_of d l ne i j = ne (let e : Some d ≡ Some c = sym (old.holds d l i) ∙ old.holds c l j in cc)
