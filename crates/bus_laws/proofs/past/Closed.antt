-- Each mux has exactly the channel open that it keeps, unless it is marked; and one that disconnects keeps a channel only while
-- the caller that switched it last has the lock of its bus. The induction goes over the entries.
use Rattle.bus_laws.proofs.Cited.{◌≡◌, ℕ, zero, suc, Bool, true, false, cond, List, [], ◌∷◌, Option, Some, None, eqb, refl, sym, ◌∙◌, ap}
use Rattle.bus_laws.proofs.Cited.{subst, ◌⊎◌, inl, inr, eqb_tells, LockId, End, Entry, Purpose, BoardView, TransferView, home_of_mux}
use Rattle.bus_laws.proofs.Cited.{is_left_open, IsTree, IsPlainBoard, Asks, Mark, Job, Call, Select, SwitchOff, off_bus, off_mux, Act, Sent}
use Rattle.bus_laws.proofs.Cited.{Lined, Note, job_purpose, line_mux, Slots, At, MuxSlot, Clean, Marked, Polled, Found, mark_in, turned}
use Rattle.bus_laws.proofs.Cited.{set_marks, polled_slot, after_job, first_act, first_note, holder, Now, current, now, kept_channel}
use Rattle.bus_laws.proofs.Cited.{sent_by, lined_by, IsStepwise, InLocks, MayFail, MaySend, MayShift, LinesAreLocked, AsksForMessages}
use Rattle.bus_laws.proofs.Cited.{eqb-true}
use Rattle.i2c_base.specs.declared.ids.LockId.TheVariants as lock
use Rattle.i2c_base.specs.declared.entry.End.TheVariants as end
use Rattle.i2c_base.specs.declared.entry.Entry.TheVariants as entry
use Rattle.bus_spec.specs.Places.{switches, switched_by}
use Rattle.bus_laws.specs.Reach.{KeepsItsChannel, KeepsClosed}
use Rattle.bus_laws.proofs.tree.Slots.{turned-same, turned-other}
use Rattle.bus_laws.proofs.world.Slots.{kept_own, kept_other, set_marks-only}
use Rattle.bus_laws.proofs.past.StandsStep.{lock_tells}
use Rattle.bus_laws.proofs.past.Laws.{sent_holder, lined_holder, holder-told, past-stands, cur, sends, shifts}

-- a mux is the mark of its bus, or it isn't
marked_or : (s : MuxSlot) (m : ℕ) → (s ≡ Marked m) ⊎ (s ≡ Marked m → ⊥)
marked_or Clean m = inr (λ e. let f : Clean ≡ Marked m = e in cc)
marked_or (Marked k) m =
    elim (eqb_tells k m) [ inl h ↦ inl (ap Marked h.1) | inr h ↦ inr (λ e. h.1 (let f : Marked k ≡ Marked m = e in cc)) ]
marked_or (Polled h more) m = inr (λ e. let f : Polled h more ≡ Marked m = e in cc)
marked_or (Found h) m = inr (λ e. let f : Found h ≡ Marked m = e in cc)

apart_of : (k m : ℕ) → eqb k m ≡ false → m ≡ k → ⊥
apart_of k m off same =
    elim (eqb_tells k m) [ inl h ↦ (let f : true ≡ false = sym h.0 ∙ off in cc) | inr h ↦ h.1 (sym same) ]

-- ONE STEP of another mux opens no channel of this one
module _ (m c : ℕ) (v : Slots) (p : ℕ) where
  abbrev KeptIn : Slots → Type 0
  KeptIn w = (w p).kept m ≡ Some c

  turned_before : (k on : ℕ) (s : MuxSlot) (d : Option ℕ) → eqb k m ≡ false → KeptIn (turned v on k s d) → KeptIn v
  turned_before k on s d off keeps =
      elim (eqb_tells p on) [
        | inl here ↦ ap (λ (q : ℕ). (v q).kept m) here.1 ∙ sym (kept_other (v on).kept k m d (apart_of k m off))
            ∙ sym (ap (λ (x : At). x.kept m) (turned-same v on k s d)) ∙ ap (λ (q : ℕ). (turned v on k s d q).kept m) (sym here.1) ∙ keeps
        | inr far ↦ sym (ap (λ (x : At). x.kept m) (turned-other v on k p s d far.1)) ∙ keeps
      ]

  marks_before : (b : BoardView) (held : List LockId) (marks : List Mark) → MayFail b marks held v → KeptIn (set_marks marks v) → KeptIn v
  marks_before b held marks fail keeps =
      elim (set_marks-only b held v marks fail p) [
        | inl same ↦ sym (ap (λ (x : At). x.kept m) same) ∙ keeps
        | inr mark ↦ elim (eqb_tells m mark.mux) [
          | inl its ↦ absurd (let f : None ≡ Some c = sym (kept_own (v p).kept mark.mux m None its.1)
              ∙ sym (ap (λ (x : At). x.kept m) mark.is) ∙ keeps in cc)
          | inr off ↦ sym (kept_other (v p).kept mark.mux m None off.1) ∙ sym (ap (λ (x : At). x.kept m) mark.is) ∙ keeps
        ]
      ]

  module _ (b : BoardView) (held : List LockId) (marks : List Mark) where
    sent_before : (whose : TransferView) (job : Job) (left : ℕ) → MaySend b whose job left marks held v
        → switches m (job_purpose job) ≡ false → (e : End) (bytes : List ℕ)
        → KeptIn (after_job job left marks (Sent e bytes) v) → KeptIn v
    sent_before whose (Call bus ms) left may off e bytes keeps = keeps
    sent_before whose (Select h) zero may off end.Ok bytes keeps = turned_before h.mux h.on Clean (Some h.channel) off keeps
    sent_before whose (Select h) (suc left) may off end.Ok bytes keeps = turned_before h.mux h.on (polled_slot h left bytes) None off keeps
    sent_before whose (Select h) left may off end.Nack bytes keeps = turned_before h.mux h.on Clean None off keeps
    sent_before whose (Select h) left may off end.Slow bytes keeps = turned_before h.mux h.on Clean None off keeps
    sent_before whose (Select h) left may off end.Refused bytes keeps = turned_before h.mux h.on Clean None off keeps
    sent_before whose (Select h) left may off end.Proto bytes keeps = turned_before h.mux h.on Clean None off keeps
    sent_before whose (Select h) left may off (end.Cut q) bytes keeps = marks_before b held marks may.may_fail keeps
    sent_before whose (SwitchOff x) left may off end.Ok bytes keeps = turned_before (off_mux x) (off_bus x) Clean None off keeps
    sent_before whose (SwitchOff x) left may off end.Nack bytes keeps = turned_before (off_mux x) (off_bus x) Clean None off keeps
    sent_before whose (SwitchOff x) left may off end.Slow bytes keeps = turned_before (off_mux x) (off_bus x) Clean None off keeps
    sent_before whose (SwitchOff x) left may off end.Refused bytes keeps = turned_before (off_mux x) (off_bus x) Clean None off keeps
    sent_before whose (SwitchOff x) left may off end.Proto bytes keeps = turned_before (off_mux x) (off_bus x) Clean None off keeps
    sent_before whose (SwitchOff x) left may off (end.Cut q) bytes keeps = marks_before b held marks may.may_fail keeps

    lined_before : (job : Job) → MayShift b job marks held v → eqb (line_mux job) m ≡ false → (failed : Bool)
        → KeptIn (after_job job zero marks (Lined failed) v) → KeptIn v
    lined_before (Call bus ms) may off failed keeps = keeps
    lined_before (Select h) may off true keeps = marks_before b held marks may.may_fail keeps
    lined_before (Select h) may off false keeps = turned_before h.mux h.on Clean (Some h.channel) off keeps
    lined_before (SwitchOff x) may off true keeps = marks_before b held marks may.may_fail keeps
    lined_before (SwitchOff x) may off false keeps = turned_before (off_mux x) (off_bus x) Clean None off keeps

-- A step of a mux has the lock of the bus that it stands on
module _ (b : BoardView) (tree : IsTree b) (m : ℕ) (held : List LockId) (marks : List Mark) (v : Slots) where
  abbrev HasIts : Type 0
  HasIts = InLocks (lock.Mux (home_of_mux b m)) held

  its_lock : (k on : ℕ) → home_of_mux b k ≡ on → k ≡ m → InLocks (lock.Mux on) held → HasIts
  its_lock k on home same has = subst (λ (p : ℕ). InLocks (lock.Mux p) held) (sym home ∙ ap (home_of_mux b) same) has

  sent_lock : (whose : TransferView) (job : Job) (left : ℕ) → MaySend b whose job left marks held v → switches m (job_purpose job) ≡ true
      → HasIts
  sent_lock whose (Call bus ms) left may on = absurd (let f : false ≡ true = on in cc)
  sent_lock whose (Select h) left may on = its_lock h.mux h.on (tree.hop h.bus h may.finds.1).home (eqb-true h.mux m on) may.owns.0
  sent_lock whose (SwitchOff off) left may on = its_lock (off_mux off) (off_bus off) may.finds.1 (eqb-true (off_mux off) m on) may.owns.0

  lined_lock : (job : Job) → MayShift b job marks held v → eqb (line_mux job) m ≡ true → HasIts
  lined_lock (Call bus ms) may on = absurd (let f : false ≡ true = may.by_line in cc)
  lined_lock (Select h) may on = its_lock h.mux h.on (tree.hop h.bus h may.finds.1).home (eqb-true h.mux m on) may.owns.0
  lined_lock (SwitchOff off) may on = its_lock (off_mux off) (off_bus off) may.finds.1 (eqb-true (off_mux off) m on) may.owns.0

module _ (b : BoardView) (tree : IsTree b) (plain : IsPlainBoard b) (lines : LinesAreLocked b) (asks : Asks) (some : AsksForMessages asks)
    (callers : ℕ) where
  -- A MUX THAT DISCONNECTS
  module _ (m : ℕ) (leaves : is_left_open b m ≡ false) where
    abbrev its : LockId
    its = lock.Mux (home_of_mux b m)

    abbrev KeptAfter : List Entry → ℕ → Type 0
    KeptAfter past c = kept_channel b asks past m ≡ Some c

    -- while it keeps a channel, its lock is held
    not_free : (past : List Entry) → IsStepwise b callers asks past → (c : ℕ) → KeptAfter past c → (now b asks past).holder its ≡ None → ⊥
    not_free past steps c keeps none =
        let f : false ≡ true = sym leaves
        ∙ (((past-stands b tree plain lines asks some callers past steps).shut (home_of_mux b m) none).stay m c keeps).1 in cc

    -- THE INDUCTION over the entries: by who switched it
    switched-holds : (past : List Entry) → IsStepwise b callers asks past → (c : ℕ) → KeptAfter past c
        → (now b asks past).holder its ≡ switched_by past m
    switched-holds [] steps c keeps = absurd (let f : None ≡ Some c = keeps in cc)
    switched-holds (entry.Take d l ∷ past) steps c keeps =
        elim (lock_tells l its) [
          | inl h ↦ absurd (not_free past steps.1 c keeps (ap (now b asks past).holder (sym h.1) ∙ steps.0.3))
          | inr h ↦ ap (λ (t : Bool). cond t (Some d) ((now b asks past).holder its)) h.0 ∙ switched-holds past steps.1 c keeps
        ]
    switched-holds (entry.Free d l ∷ past) steps c keeps =
        elim (lock_tells l its) [
          | inl h ↦ absurd (not_free (entry.Free d l ∷ past) steps c keeps
              (ap (λ (t : Bool). cond t None ((now b asks past).holder its)) h.0))
          | inr h ↦ ap (λ (t : Bool). cond t None ((now b asks past).holder its)) h.0 ∙ switched-holds past steps.1 c keeps
        ]
    switched-holds (entry.Settle d r cut ∷ past) steps c keeps = switched-holds past steps.1 c keeps
    switched-holds (entry.Line d mux level failed ∷ past) steps c keeps =
        lined_holder b n (first_act (current b asks n d)) note failed its ∙ by (eqb mux m) refl (switched-holds past steps.1)
      where
        n : Now
        n = now b asks past

        note : Note
        note = first_note (current b asks n d)

        job : Job
        job = steps.0.2.0

        may : MayShift b job note.marks (n.held d) n.slot
        may = shifts b tree plain lines asks some callers past steps.1 d job steps.0.2.1

        same_mux : eqb (line_mux job) m ≡ eqb mux m
        same_mux = ap (λ (k : ℕ). eqb k m) (sym steps.0.2.2.of_mux)

        kept_then : (after_job job zero note.marks (Lined failed) n.slot (home_of_mux b m)).kept m ≡ Some c
        kept_then = subst (λ (o : Option Act). ((lined_by b n o note failed).slot (home_of_mux b m)).kept m ≡ Some c) steps.0.2.1 keeps

        by : (t : Bool) → eqb mux m ≡ t → ((x : ℕ) → KeptAfter past x → n.holder its ≡ switched_by past m)
            → n.holder its ≡ cond (eqb mux m) (Some d) (switched_by past m)
        by true on before =
            (past-stands b tree plain lines asks some callers past steps.1).holds d its
            (lined_lock b tree m (n.held d) note.marks n.slot job may (same_mux ∙ on))
            ∙ sym (ap (λ (t : Bool). cond t (Some d) (switched_by past m)) on)
        by false off before =
            before c (lined_before m c n.slot (home_of_mux b m) b (n.held d) note.marks job may (same_mux ∙ off) failed kept_then)
            ∙ sym (ap (λ (t : Bool). cond t (Some d) (switched_by past m)) off)
    switched-holds (entry.Message d bus why part parts addr reading bytes heard e ∷ past) steps c keeps =
        sent_holder b n d (first_act (current b asks n d)) note reading bytes e its ∙ by (switches m why) refl (switched-holds past steps.1)
      where
        n : Now
        n = now b asks past

        note : Note
        note = first_note (current b asks n d)

        job : Job
        job = steps.0.2.0

        left : ℕ
        left = steps.0.2.1

        whose : TransferView
        whose = (cur b tree plain lines asks some callers past steps.1 d).whose

        may : MaySend b whose job left note.marks (n.held d) n.slot
        may = sends b tree plain lines asks some callers past steps.1 d job left steps.0.2.2

        same_purpose : switches m (job_purpose job) ≡ switches m why
        same_purpose = ap (λ (w : Purpose). switches m w) (sym steps.0.2.3.for_purpose)

        kept_then : (after_job job left note.marks (Sent e bytes) n.slot (home_of_mux b m)).kept m ≡ Some c
        kept_then = subst (λ (o : Option Act). ((sent_by b n d o note reading bytes e).slot (home_of_mux b m)).kept m ≡ Some c) steps.0.2.2
            keeps

        by : (t : Bool) → switches m why ≡ t → ((x : ℕ) → KeptAfter past x → n.holder its ≡ switched_by past m)
            → n.holder its ≡ cond (switches m why) (Some d) (switched_by past m)
        by true on before =
            (past-stands b tree plain lines asks some callers past steps.1).holds d its
            (sent_lock b tree m (n.held d) note.marks n.slot whose job left may (same_purpose ∙ on))
            ∙ sym (ap (λ (t : Bool). cond t (Some d) (switched_by past m)) on)
        by false off before =
            before c (sent_before m c n.slot (home_of_mux b m) b (n.held d) note.marks whose job left may (same_purpose
            ∙ off) e bytes kept_then)
            ∙ sym (ap (λ (t : Bool). cond t (Some d) (switched_by past m)) off)

    switched-has : (past : List Entry) → IsStepwise b callers asks past → (c : ℕ) → KeptAfter past c
        → (caller : ℕ) × (switched_by past m ≡ Some caller) × (holder past its ≡ Some caller)
    switched-has past steps c keeps = by ((now b asks past).holder its) refl
      where
        by : (o : Option ℕ) → (now b asks past).holder its ≡ o
            → (caller : ℕ) × (switched_by past m ≡ Some caller) × (holder past its ≡ Some caller)
        by None none = absurd (not_free past steps c keeps none)
        by (Some k) has = (k, sym (switched-holds past steps c keeps) ∙ has, sym (holder-told b asks past its) ∙ has)

  -- EACH MUX
  keeps-channel : (past : List Entry) (m : ℕ) → IsStepwise b callers asks past
      → (((now b asks past).slot (home_of_mux b m)).slot ≡ Marked m → ⊥) → KeepsItsChannel b asks past m
  keeps-channel past m steps unmarked =
      let told = (past-stands b tree plain lines asks some callers past steps).told.told in
      record {
        opened = λ c keeps. (let o = told.opened m c keeps in (o.0, o.1, o.2));
        only = λ c x at opens. elim (told.only m c x at opens) [ inl keeps ↦ keeps | inr marked ↦ absurd (unmarked marked) ];
        locked = λ leaves c keeps. switched-has m leaves past steps c keeps;
      }

  pub closed-kept : (past : List Entry) → IsStepwise b callers asks past → KeepsClosed b asks past
  closed-kept past steps m =
      elim (marked_or ((now b asks past).slot (home_of_mux b m)).slot m) [
        | inl marked ↦ inl (ap mark_in marked)
        | inr unmarked ↦ inr (keeps-channel past m steps unmarked)
      ]
