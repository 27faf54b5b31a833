-- Each mark is on the bus that its mux stands on, that is a bus of the board, and the mux keeps no channel. The inductions
-- go over the muxes, the marks of one step, and the entries.
use Rattle.bus_laws.proofs.Cited.{◌≡◌, ℕ, zero, suc, ◌-◌, ◌<◌, Bool, true, false, cond, List, [], ◌∷◌, length, Option, Some, None, eqb}
use Rattle.bus_laws.proofs.Cited.{refl, sym, ◌∙◌, ap, subst, inl, inr, arith, eqb_tells, slice_get, unwrap_or, option_map, MuxSpec, LockId}
use Rattle.bus_laws.proofs.Cited.{Entry, BoardView, Hop, buses, home_of_mux, IsTree, IsPlainBoard, Asks, changed_at, Mark, Job, Call}
use Rattle.bus_laws.proofs.Cited.{Select, SwitchOff, off_bus, off_mux, Act, ActOutcome, Passed, Sent, Lined, Note, first_byte, Slots, At}
use Rattle.bus_laws.proofs.Cited.{MuxSlot, Clean, Marked, Polled, Found, mark_in, turned, turned_at, set_marks, polled_slot, select_told}
use Rattle.bus_laws.proofs.Cited.{after_select, after_off, after_job, first_note, current, now, kept_channel, sent_by, lined_by, IsStepwise}
use Rattle.bus_laws.proofs.Cited.{MayFail, LinesAreLocked, AsksForMessages}
use Rattle.std.proofs.Common.{reverse, get_or}
use Rattle.std.proofs.lemmas.List.{get_or-reverse, length-reverse}
use Rattle.i2c_base.specs.declared.entry.End.TheVariants as end
use Rattle.i2c_base.specs.declared.entry.Entry.TheVariants as entry
use Rattle.i2c_spec.specs.Tree.{buses_of}
use Rattle.i2c_spec.specs.Plain.{IsPlanted}
use Rattle.i2c_spec.proofs.HopLemmas.{buses_of-cons, buses_of-reverse}
use Rattle.bus_spec.specs.Past.{mark}
use Rattle.bus_laws.proofs.world.BoardFacts.{get_within}
use Rattle.bus_laws.proofs.world.Slots.{kept_own}
use Rattle.bus_laws.proofs.tree.Slots.{changed-same, changed-other, marked_slot}
use Rattle.bus_laws.proofs.past.Laws.{sends, shifts}

-- THE BUS OF A MUX comes before its channels
planted_home : (roots : ℕ) (ms : List MuxSpec) (k : ℕ) (d : MuxSpec) → IsPlanted roots ms → k < length ms
    → (get_or ms k d).bus < buses_of roots ms
planted_home roots [] k d planted within = absurd (omega (arith, within))
planted_home roots (m ∷ before) zero d planted within = omega (arith, planted.0, buses_of-cons roots m before)
planted_home roots (m ∷ before) (suc k) d planted within =
    omega (arith, planted_home roots before k d planted.1 (omega (arith, within)), buses_of-cons roots m before)

listed_home : (roots : ℕ) (ms : List MuxSpec) (m : ℕ) (s : MuxSpec) → IsPlanted roots (reverse ms) → slice_get ms m ≡ Some s
    → s.bus < buses_of roots ms
listed_home roots ms m s planted at =
    let r = get_within ms m s s at in
    let k : ℕ = length ms - 1 - m in
    let back : get_or (reverse ms) k s ≡ s =
    get_or-reverse ms k s (omega (arith, r.0)) ∙ ap (λ (i : ℕ). get_or ms i s) (let e : length ms - 1 - k ≡ m = omega (arith, r.0) in e)
    ∙ r.1 in
    subst (λ (n : ℕ). s.bus < n) (buses_of-reverse roots ms)
    (subst (λ (x : MuxSpec). x.bus < buses_of roots (reverse ms)) back
    (planted_home roots (reverse ms) k s planted (omega (arith, r.0, length-reverse ms))))

-- a mux that the board hasn't counts as one on its first root
pub home_there : (b : BoardView) → IsPlainBoard b → (m : ℕ) → home_of_mux b m < buses b
home_there b plain m = by (slice_get b.muxes m) refl
  where
    by : (o : Option MuxSpec) → slice_get b.muxes m ≡ o → home_of_mux b m < buses b
    by None at = subst (λ (i : ℕ). i < buses b) (sym (ap (λ (o : Option MuxSpec). unwrap_or (option_map (λ (x : MuxSpec). x.bus) o) 0) at))
        (omega (arith, plain.some_root))
    by (Some s) at =
        subst (λ (i : ℕ). i < buses b) (sym (ap (λ (o : Option MuxSpec). unwrap_or (option_map (λ (x : MuxSpec). x.bus) o) 0) at))
        (listed_home (length b.roots) b.muxes m s plain.planted at)

-- MARKS
-- a mark on this bus: its mux stands there, and keeps no channel
abbrev IsHome : BoardView → ℕ → At → ℕ → Type 0
IsHome b p x m = (home_of_mux b m ≡ p) × (x.kept m ≡ None)

abbrev AreHome : BoardView → Slots → Type 0
AreHome b v = (p m : ℕ) → (v p).slot ≡ Marked m → IsHome b p (v p) m

slot_home : (b : BoardView) (v : Slots) (on : ℕ) (x : At) → AreHome b v → ((m : ℕ) → x.slot ≡ Marked m → IsHome b on x m)
    → AreHome b (changed_at v on x)
slot_home b v on x homes own p m at =
    elim (eqb_tells p on) [
      | inl h ↦ (let here : changed_at v on x p ≡ x = ap (λ (q : ℕ). changed_at v on x q) h.1 ∙ changed-same v on x in
          let o = own m (sym (ap (λ (y : At). y.slot) here) ∙ at) in
          (o.0 ∙ sym h.1, ap (λ (y : At). y.kept m) here ∙ o.1))
      | inr h ↦ (let there : changed_at v on x p ≡ v p = changed-other v on p x h.1 in
          let o = homes p m (sym (ap (λ (y : At). y.slot) there) ∙ at) in
          (o.0, ap (λ (y : At). y.kept m) there ∙ o.1))
    ]

clean_home : (b : BoardView) (v : Slots) (on mux : ℕ) (s : MuxSlot) (c : Option ℕ) → AreHome b v → mark_in s ≡ None
    → AreHome b (turned v on mux s c)
clean_home b v on mux s c homes none =
    slot_home b v on (turned_at (v on) mux s c) homes (λ m e. absurd (let f : None ≡ Some m = sym none ∙ ap mark_in e in cc))

marks_home : (b : BoardView) (held : List LockId) (w : Slots) (ms : List Mark) (v : Slots) → MayFail b ms held w → AreHome b v
    → AreHome b (set_marks ms v)
marks_home b held w [] v fail homes = homes
marks_home b held w (k ∷ ms) v fail homes =
    slot_home b (set_marks ms v) k.on (turned_at (v k.on) k.mux (Marked k.mux) None) (marks_home b held w ms v fail.1 homes)
    (λ m e. (let same : k.mux ≡ m = (let f : Marked k.mux ≡ Marked m = e in cc) in
    (subst (λ (i : ℕ). home_of_mux b i ≡ k.on) same fail.0.at_home, kept_own (v k.on).kept k.mux m None (sym same))))

pub poll_unmarked : (h : Hop) (left : ℕ) (bytes : List ℕ) → mark_in (polled_slot h left bytes) ≡ None
poll_unmarked h zero bytes = by (eqb (first_byte bytes) 0)
  where
    by : (t : Bool) → mark_in (cond t (Found h) Clean) ≡ None
    by true = refl
    by false = refl
poll_unmarked h (suc left) bytes = by (eqb (first_byte bytes) 0)
  where
    by : (t : Bool) → mark_in (cond t (Found h) (Polled h left)) ≡ None
    by true = refl
    by false = refl

module _ (b : BoardView) (held : List LockId) (w : Slots) (marks : List Mark) (fail : MayFail b marks held w) (v : Slots)
    (homes : AreHome b v) where
  failed_home : AreHome b (set_marks marks v)
  failed_home = marks_home b held w marks v fail homes

  told_home : (h : Hop) (left : ℕ) (bytes : List ℕ) → AreHome b (select_told h left bytes v)
  told_home h zero bytes = clean_home b v h.on h.mux Clean (Some h.channel) homes refl
  told_home h (suc left) bytes = clean_home b v h.on h.mux (polled_slot h left bytes) None homes (poll_unmarked h left bytes)

  select_home : (h : Hop) (left : ℕ) (out : ActOutcome) → AreHome b (after_select h left marks out v)
  select_home h left (Sent end.Ok bytes) = told_home h left bytes
  select_home h left (Sent end.Nack bytes) = clean_home b v h.on h.mux Clean None homes refl
  select_home h left (Sent end.Slow bytes) = clean_home b v h.on h.mux Clean None homes refl
  select_home h left (Sent end.Refused bytes) = clean_home b v h.on h.mux Clean None homes refl
  select_home h left (Sent end.Proto bytes) = clean_home b v h.on h.mux Clean None homes refl
  select_home h left (Sent (end.Cut q) bytes) = failed_home
  select_home h left (Lined true) = failed_home
  select_home h left (Lined false) = clean_home b v h.on h.mux Clean (Some h.channel) homes refl
  select_home h left Passed = homes

  off_home : (on mux : ℕ) (out : ActOutcome) → AreHome b (after_off on mux marks out v)
  off_home on mux (Sent end.Ok bytes) = clean_home b v on mux Clean None homes refl
  off_home on mux (Sent end.Nack bytes) = clean_home b v on mux Clean None homes refl
  off_home on mux (Sent end.Slow bytes) = clean_home b v on mux Clean None homes refl
  off_home on mux (Sent end.Refused bytes) = clean_home b v on mux Clean None homes refl
  off_home on mux (Sent end.Proto bytes) = clean_home b v on mux Clean None homes refl
  off_home on mux (Sent (end.Cut q) bytes) = failed_home
  off_home on mux (Lined true) = failed_home
  off_home on mux (Lined false) = clean_home b v on mux Clean None homes refl
  off_home on mux Passed = homes

  job_home : (job : Job) (left : ℕ) (out : ActOutcome) → AreHome b (after_job job left marks out v)
  job_home (Call bus ms) left out = homes
  job_home (Select h) left out = select_home h left out
  job_home (SwitchOff off) left out = off_home (off_bus off) (off_mux off) out

-- EVERY PAST
module _ (b : BoardView) (tree : IsTree b) (plain : IsPlainBoard b) (lines : LinesAreLocked b) (asks : Asks) (some : AsksForMessages asks)
    (callers : ℕ) where
  -- THE INDUCTION over the entries
  pub marks-home : (past : List Entry) → IsStepwise b callers asks past → AreHome b (now b asks past).slot
  marks-home [] steps = λ p m e. absurd (let f : Clean ≡ Marked m = e in cc)
  marks-home (entry.Take c l ∷ past) steps = marks-home past steps.1
  marks-home (entry.Free c l ∷ past) steps = marks-home past steps.1
  marks-home (entry.Settle c r cut ∷ past) steps = marks-home past steps.1
  marks-home (entry.Message c bus purpose part parts addr reading bytes heard e ∷ past) steps =
      let note : Note = first_note (current b asks (now b asks past) c) in
      subst (λ (o : Option Act). AreHome b (sent_by b (now b asks past) c o note reading bytes e).slot) (sym steps.0.2.2)
      (job_home b ((now b asks past).held c) (now b asks past).slot note.marks
      (sends b tree plain lines asks some callers past steps.1 c steps.0.2.0 steps.0.2.1 steps.0.2.2).may_fail
      (now b asks past).slot (marks-home past steps.1) steps.0.2.0 steps.0.2.1 (Sent e bytes))
  marks-home (entry.Line c mux level failed ∷ past) steps =
      let note : Note = first_note (current b asks (now b asks past) c) in
      subst (λ (o : Option Act). AreHome b (lined_by b (now b asks past) o note failed).slot) (sym steps.0.2.1)
      (job_home b ((now b asks past).held c) (now b asks past).slot note.marks
      (shifts b tree plain lines asks some callers past steps.1 c steps.0.2.0 steps.0.2.1).may_fail
      (now b asks past).slot (marks-home past steps.1) steps.0.2.0 0 (Lined failed))

  pub mark-home : (past : List Entry) → IsStepwise b callers asks past → (p m : ℕ) → mark b asks past p ≡ Some m → home_of_mux b m ≡ p
  mark-home past steps p m at = (marks-home past steps p m (marked_slot ((now b asks past).slot p).slot m at)).0

  pub mark-keeps-none : (past : List Entry) → IsStepwise b callers asks past → (p m : ℕ) → mark b asks past p ≡ Some m
      → kept_channel b asks past m ≡ None
  mark-keeps-none past steps p m at =
      let home = marks-home past steps p m (marked_slot ((now b asks past).slot p).slot m at) in
      ap (λ (q : ℕ). ((now b asks past).slot q).kept m) home.0 ∙ home.1

  pub mark-there : (past : List Entry) → IsStepwise b callers asks past → (p m : ℕ) → mark b asks past p ≡ Some m → p < buses b
  mark-there past steps p m at =
      subst (λ (i : ℕ). i < buses b) (mark-home past steps p m at) (home_there b plain m)
