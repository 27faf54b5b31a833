-- What a walk holds after each of its steps, and where its marks are. The inductions go over lists of marks.
use Rattle.core_laws.proofs.Cited.{◌≡◌, ℕ, zero, suc, ◌<◌, Bool, true, false, List, [], ◌∷◌, length, Option, Some, None, cond, eqb, refl}
use Rattle.core_laws.proofs.Cited.{sym, subst, inl, inr, arith, slice_index_or, eqb_tells, leb_tells, get_or_past, LockId, Errno, BoardView}
use Rattle.core_laws.proofs.Cited.{Hop, buses, changed_at, Mark, Job, Call, Select, SwitchOff, off_bus, off_mux, Act, Take, Free, Send}
use Rattle.core_laws.proofs.Cited.{Shift, Settle, ActOutcome, Passed, Sent, Lined, Note, WalkTree, Ends, Look, Then, Slots, At, MuxSlot}
use Rattle.core_laws.proofs.Cited.{Clean, Marked, mark_in, turned_at, turned, set_marks, polled_slot, select_told, after_job, seen, is_over}
use Rattle.core_laws.proofs.Cited.{first_act, first_note, rest_of, IsBelow, InLocks, first_is, changed-same, changed-other, SeenView}
use Rattle.core_laws.proofs.Cited.{mark_on, slots_of, TellsMarks, IsLockOf, IsMarkOn, MarksHeld, SendsIn, HoldsLocks, holds_seen, LocksView}
use Rattle.core_laws.proofs.Cited.{turned_to, TableKept}
use Rattle.i2c_base.specs.declared.entry.End.TheVariants as end
use Rattle.bus_spec.specs.Walk.{first_byte}
use Rattle.bus_spec.specs.Slots.{Polled, Found}
use Rattle.mux_plan.specs.Plans.{slot_of}

-- who holds a lock has not ended
pub holder-goes : (b : BoardView) (ls : List LockId) (w : WalkTree) → HoldsLocks b ls w → (l : LockId) → InLocks l ls → is_over w ≡ false
holder-goes b ls Ends h l among = absurd (subst (λ (ks : List LockId). InLocks l ks) h among)
holder-goes b ls (Look ask next) h l among = refl
holder-goes b ls (Then act note next) h l among = refl

pub mark_of_slot : (b : BoardView) (p : ℕ) (o : Option ℕ) → IsMarkOn b p o → IsMarkOn b p (mark_in (slot_of o))
mark_of_slot b p None h = h
mark_of_slot b p (Some m) h = h

module _ (b : BoardView) (words : SeenView) (home : (p : ℕ) → IsMarkOn b p (mark_on words p)) (ls : List LockId) (w : WalkTree)
    (holds : HoldsLocks b ls w) where
  abbrev pub v : Slots
  v = slots_of words

  pub home_seen : (p : ℕ) → IsMarkOn b p (mark_in (v p).slot)
  home_seen p = mark_of_slot b p (mark_on words p) (home p)

  here : HoldsLocks b ls (seen v w)
  here = holds_seen b ls v home_seen w holds

  abbrev Here : Act → Type 0
  Here act = (note : Note) × (next : ActOutcome → WalkTree) × (seen v w ≡ Then act note next)

  at : (act : Act) → first_act (seen v w) ≡ Some act → Here act
  at act first = first_is (seen v w) act first

  pub holds-taken : (l : LockId) → first_act (seen v w) ≡ Some (Take l)
      → IsLockOf b l × IsBelow b l ls × HoldsLocks b (l ∷ ls) (rest_of (seen v w) Passed)
  holds-taken l first =
      let a = at (Take l) first in
      let h : HoldsLocks b ls (Then (Take l) a.0 a.1) = subst (λ (x : WalkTree). HoldsLocks b ls x) a.2 here in
      (h.0, h.1, subst (λ (x : WalkTree). HoldsLocks b (l ∷ ls) (rest_of x Passed)) (sym a.2) h.2)

  pub holds-freed : (l : LockId) → first_act (seen v w) ≡ Some (Free l)
      → (rest : List LockId) × (ls ≡ l ∷ rest) × HoldsLocks b rest (rest_of (seen v w) Passed)
  holds-freed l first =
      let a = at (Free l) first in
      let h : HoldsLocks b ls (Then (Free l) a.0 a.1) = subst (λ (x : WalkTree). HoldsLocks b ls x) a.2 here in
      (h.0, h.1, subst (λ (x : WalkTree). HoldsLocks b h.0 (rest_of x Passed)) (sym a.2) h.2)

  pub holds-sent : (job : Job) (left : ℕ) → first_act (seen v w) ≡ Some (Send job left)
      → SendsIn b job (first_note (seen v w)).marks ls × ((out : ActOutcome) → HoldsLocks b ls (rest_of (seen v w) out))
  holds-sent job left first =
      let a = at (Send job left) first in
      let h : HoldsLocks b ls (Then (Send job left) a.0 a.1) = subst (λ (x : WalkTree). HoldsLocks b ls x) a.2 here in (
        subst (λ (x : WalkTree). SendsIn b job (first_note x).marks ls) (sym a.2) h.0,
        λ out. subst
            (λ (x : WalkTree). HoldsLocks b ls (rest_of x out)) (sym a.2) (h.1 out),
      )

  pub holds-shifted : (job : Job) → first_act (seen v w) ≡ Some (Shift job)
      → SendsIn b job (first_note (seen v w)).marks ls × ((out : ActOutcome) → HoldsLocks b ls (rest_of (seen v w) out))
  holds-shifted job first =
      let a = at (Shift job) first in
      let h : HoldsLocks b ls (Then (Shift job) a.0 a.1) = subst (λ (x : WalkTree). HoldsLocks b ls x) a.2 here in (
        subst (λ (x : WalkTree). SendsIn b job (first_note x).marks ls) (sym a.2) h.0,
        λ out. subst
            (λ (x : WalkTree). HoldsLocks b ls (rest_of x out)) (sym a.2) (h.1 out),
      )

  pub holds-settled : (verdict : Option Errno) → first_act (seen v w) ≡ Some (Settle verdict) → HoldsLocks b ls (rest_of (seen v w) Passed)
  holds-settled verdict first =
      let a = at (Settle verdict) first in
      let h : HoldsLocks b ls (Then (Settle verdict) a.0 a.1) = subst (λ (x : WalkTree). HoldsLocks b ls x) a.2 here in
      subst (λ (x : WalkTree). HoldsLocks b ls (rest_of x Passed)) (sym a.2) h

-- THE MARKS after a message or a line step are of muxes at home
module _ (b : BoardView) (ls : List LockId) where
  abbrev pub AreHome : Slots → Type 0
  AreHome y = (p : ℕ) → IsMarkOn b p (mark_in (y p).slot)

  home_set : (y : Slots) (q : ℕ) (x : At) → AreHome y → IsMarkOn b q (mark_in x.slot) → AreHome (changed_at y q x)
  home_set y q x all own p =
      elim (eqb_tells p q) [
        | inl h ↦ subst (λ (k : ℕ). IsMarkOn b k (mark_in (changed_at y q x k).slot)) (sym h.1)
            (subst (λ (z : At). IsMarkOn b q (mark_in z.slot)) (sym (changed-same y q x)) own)
        | inr h ↦ subst (λ (z : At). IsMarkOn b p (mark_in z.slot)) (sym (changed-other y q p x h.1)) (all p)
      ]

  home_turn : (y : Slots) (q m : ℕ) (s : MuxSlot) (c : Option ℕ) → AreHome y → IsMarkOn b q (mark_in s) → AreHome (turned y q m s c)
  home_turn y q m s c all own = home_set y q (turned_at (y q) m s c) all own

  home_marks : (ms : List Mark) → MarksHeld b ms ls → (y : Slots) → AreHome y → AreHome (set_marks ms y)
  home_marks [] held y all = all
  home_marks (m ∷ ms) held y all = home_set (set_marks ms y) m.on (turned_at (y m.on) m.mux (Marked m.mux) None)
      (home_marks ms held.1 y all) held.0.1

  home_poll : (q : ℕ) (h : Hop) (left : ℕ) (bytes : List ℕ) → IsMarkOn b q (mark_in (polled_slot h left bytes))
  home_poll q h zero bytes = cases (eqb (first_byte bytes) 0)
    where
      cases : (t : Bool) → IsMarkOn b q (mark_in (cond t (Found h) Clean))
      cases true = tt
      cases false = tt
  home_poll q h (suc left) bytes = cases (eqb (first_byte bytes) 0)
    where
      cases : (t : Bool) → IsMarkOn b q (mark_in (cond t (Found h) (Polled h left)))
      cases true = tt
      cases false = tt

  home_through : (h : Hop) (left : ℕ) (bytes : List ℕ) (y : Slots) → AreHome y → AreHome (select_told h left bytes y)
  home_through h zero bytes y all = home_turn y h.on h.mux Clean (Some h.channel) all tt
  home_through h (suc left) bytes y all = home_turn y h.on h.mux (polled_slot h left bytes) None all (home_poll h.on h left bytes)

  pub home-after : (job : Job) (left : ℕ) (ms : List Mark) → MarksHeld b ms ls → (out : ActOutcome) (y : Slots) → AreHome y
      → AreHome (after_job job left ms out y)
  home-after (Call bus messages) left ms held out y all = all
  home-after (Select h) left ms held Passed y all = all
  home-after (Select h) left ms held (Lined true) y all = home_marks ms held y all
  home-after (Select h) left ms held (Lined false) y all = home_turn y h.on h.mux Clean (Some h.channel) all tt
  home-after (Select h) left ms held (Sent end.Ok bytes) y all = home_through h left bytes y all
  home-after (Select h) left ms held (Sent end.Nack bytes) y all = home_turn y h.on h.mux Clean None all tt
  home-after (Select h) left ms held (Sent end.Slow bytes) y all = home_turn y h.on h.mux Clean None all tt
  home-after (Select h) left ms held (Sent end.Refused bytes) y all = home_turn y h.on h.mux Clean None all tt
  home-after (Select h) left ms held (Sent end.Proto bytes) y all = home_turn y h.on h.mux Clean None all tt
  home-after (Select h) left ms held (Sent (end.Cut q) bytes) y all = home_marks ms held y all
  home-after (SwitchOff off) left ms held Passed y all = all
  home-after (SwitchOff off) left ms held (Lined true) y all = home_marks ms held y all
  home-after (SwitchOff off) left ms held (Lined false) y all = home_turn y (off_bus off) (off_mux off) Clean None all tt
  home-after (SwitchOff off) left ms held (Sent end.Ok bytes) y all = home_turn y (off_bus off) (off_mux off) Clean None all tt
  home-after (SwitchOff off) left ms held (Sent end.Nack bytes) y all = home_turn y (off_bus off) (off_mux off) Clean None all tt
  home-after (SwitchOff off) left ms held (Sent end.Slow bytes) y all = home_turn y (off_bus off) (off_mux off) Clean None all tt
  home-after (SwitchOff off) left ms held (Sent end.Refused bytes) y all = home_turn y (off_bus off) (off_mux off) Clean None all tt
  home-after (SwitchOff off) left ms held (Sent end.Proto bytes) y all = home_turn y (off_bus off) (off_mux off) Clean None all tt
  home-after (SwitchOff off) left ms held (Sent (end.Cut q) bytes) y all = home_marks ms held y all

-- marks that tell of home slots are of muxes at home
pub home-told : (b : BoardView) (y : Slots) (marks : List (Option ℕ)) → ((p : ℕ) → IsMarkOn b p (mark_in (y p).slot)) → TellsMarks y marks
    → (p : ℕ) → IsMarkOn b p (slice_index_or marks p None)
home-told b y marks all tells p =
    elim (leb_tells (suc p) (length marks)) [
      | inl h ↦ (let low : p < length marks = (let e = h.1 in omega (arith, e)) in
          subst (λ (o : Option ℕ). IsMarkOn b p o) (tells.at p low) (all p))
      | inr h ↦ subst (λ (o : Option ℕ). IsMarkOn b p o) (sym (get_or_past marks p None (let e = h.1 in omega (arith, e)))) tt
    ]

-- THE TABLE where marks and kept channels are new
pub mark-table : (b : BoardView) (v : LocksView) (numbers : List ℕ) (held : List (List LockId)) → TableKept b v numbers held
    → (words : SeenView) → length words.marks ≡ buses b → length words.kept ≡ length b.muxes → ((p : ℕ) → IsMarkOn b p (mark_on words p))
    → TableKept b (turned_to v words) numbers held
mark-table b v numbers held kept words all counted home =
    record {
      counted = kept.counted;
      roots = kept.roots;
      muxes = kept.muxes;
      marked = all;
      kept = counted;
      deep = kept.deep;
      ranked = kept.ranked;
      named = kept.named;
      has = kept.has;
      once = kept.once;
      home = home;
    }
