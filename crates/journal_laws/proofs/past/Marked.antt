-- A mark stays until a close of the marked mux was sent without failing, and until then no message goes through a mux on
-- its bus. The inductions go over the marks of one step, and over the entries.
use Rattle.journal_laws.proofs.Cited.{◌≡◌, ℕ, zero, suc, Bool, true, false, cond, List, [], ◌∷◌, ◌++◌, Option, Some, None, refl, sym, ◌∙◌}
use Rattle.journal_laws.proofs.Cited.{ap, subst, ◌⊎◌, inl, inr, eqb_tells, LockId, Entry, BoardView, Hop, hops, IsAmongHops, IsTree}
use Rattle.journal_laws.proofs.Cited.{IsPlainBoard, Asks, Mark, Job, Call, Select, SwitchOff, Off, Deselect, Close, off_bus, Act, Send}
use Rattle.journal_laws.proofs.Cited.{Shift, job_bus, is_arbitrator, Slots, At, MuxSlot, Clean, Marked, mark_in, first_act, first_note}
use Rattle.journal_laws.proofs.Cited.{OfMessage, caller_of, Now, current, now, mark, mark_among, mark_after, mark_sent, mark_lined, mark_by}
use Rattle.journal_laws.proofs.Cited.{is_cut, IsNext, IsStepwise, FindsSelect, IsOfMux, MayFail, LinesAreLocked, AsksForMessages, sends}
use Rattle.journal_laws.proofs.Cited.{shifts}
use Rattle.i2c_base.specs.declared.entry.Entry.TheVariants as entry
use Rattle.bus_spec.specs.Slots.{Polled, Found}
use Rattle.bus_laws.specs.Runs.{FindsPoll, FindsOpen}
use Rattle.bus_laws.proofs.tree.Slots.{marked_slot}
use Rattle.journal_laws.specs.Faulty.{Closes, HasClosed, NoneCloses, PassesBy}
use Rattle.journal_laws.proofs.past.Places.{mark-left}

-- ONE STEP on a marked bus
module _ (p m : ℕ) where
  -- it marks no other mux there
  among_stays : (b : BoardView) (held : List LockId) (v : Slots) (ms : List Mark) → MayFail b ms held v → (v p).slot ≡ Marked m
      → mark_among ms p (Some m) ≡ Some m
  among_stays b held v [] fail at = refl
  among_stays b held v (k ∷ ms) fail at =
      elim (eqb_tells p k.on) [
        | inl h ↦ ap (λ (t : Bool). cond t (Some k.mux) (mark_among ms p (Some m))) h.0
            ∙ ap Some (sym (subst (λ (s : MuxSlot). IsOfMux k.mux s) (ap (λ (q : ℕ). (v q).slot) (sym h.1) ∙ at) fail.0.forgets))
        | inr h ↦ ap (λ (t : Bool). cond t (Some k.mux) (mark_among ms p (Some m))) h.0 ∙ among_stays b held v ms fail.1 at
      ]

  -- it selects no mux there
  no_poll : (h : Hop) (left : ℕ) → FindsPoll h left (Marked m) → ⊥
  no_poll h zero finds = (let f : Marked m ≡ Found h = finds in cc)
  no_poll h (suc left) finds =
      elim finds [ inl e ↦ (let f : Marked m ≡ Polled h left = e in cc) | inr e ↦ (let f : Marked m ≡ Clean = e.1 in cc) ]

  no_select : (t : Bool) (h : Hop) (left : ℕ) (x : At) → FindsSelect t h left x → x.slot ≡ Marked m → ⊥
  no_select true h left x finds at = no_poll h left (subst (λ (s : MuxSlot). FindsPoll h left s) at finds.0)
  no_select false h left x finds at = (let f : Marked m ≡ Clean = sym at ∙ finds.1 in cc)

  abbrev StaysOr : Option Act → Job → List Mark → Bool → Type 0
  StaysOr act job marks failed = (mark_after job marks failed p (Some m) ≡ Some m) ⊎ (Closes p m act × (failed ≡ false))

  stays-select : (h : Hop) (left : ℕ) (act : Option Act) (v : Slots) (marks : List Mark) → mark_among marks p (Some m) ≡ Some m
      → (v p).slot ≡ Marked m
      → FindsSelect (is_arbitrator h.kind) h left (v h.on) → (failed : Bool) → StaysOr act (Select h) marks failed
  stays-select h left act v marks stays at finds true = inl stays
  stays-select h left act v marks stays at finds false =
      elim (eqb_tells p h.on) [
        | inl e ↦ absurd (no_select (is_arbitrator h.kind) h left (v h.on) finds (ap (λ (q : ℕ). (v q).slot) (sym e.1) ∙ at))
        | inr e ↦ inl (ap (λ (t : Bool). cond t None (Some m)) e.0)
      ]

  -- a deselect finds its bus clean
  stays-deselected : (h : Hop) (act : Option Act) (v : Slots) (marks : List Mark) → mark_among marks p (Some m) ≡ Some m
      → (v p).slot ≡ Marked m → (v h.on).slot ≡ Clean → (failed : Bool) → StaysOr act (SwitchOff (Deselect h)) marks failed
  stays-deselected h act v marks stays at clean true = inl stays
  stays-deselected h act v marks stays at clean false =
      elim (eqb_tells p h.on) [
        | inl e ↦ absurd (let f : Marked m ≡ Clean = sym at ∙ ap (λ (q : ℕ). (v q).slot) e.1 ∙ clean in cc)
        | inr e ↦ inl (ap (λ (t : Bool). cond t None (Some m)) e.0)
      ]

  stays-closed : (on mux : ℕ) (kind : _) (act : Option Act) (v : Slots) (marks : List Mark) → mark_among marks p (Some m) ≡ Some m
      → (v p).slot ≡ Marked m → (v on).slot ≡ Marked mux → ((on ≡ p) × (mux ≡ m) → Closes p m act) → (failed : Bool)
      → StaysOr act (SwitchOff (Close on mux kind)) marks failed
  stays-closed on mux kind act v marks stays at marked closes true = inl stays
  stays-closed on mux kind act v marks stays at marked closes false =
      elim (eqb_tells p on) [
        | inl e ↦ (let f : Marked m ≡ Marked mux = sym at ∙ ap (λ (q : ℕ). (v q).slot) e.1 ∙ marked in
            let same : mux ≡ m = cc in
            inr (closes (sym e.1, same), refl))
        | inr e ↦ inl (ap (λ (t : Bool). cond t None (Some m)) e.0)
      ]

  stays-sent-off : (off : Off) (left : ℕ) (v : Slots) (marks : List Mark) → mark_among marks p (Some m) ≡ Some m
      → (v p).slot ≡ Marked m → FindsOpen off (v (off_bus off)).slot → (failed : Bool)
      → StaysOr (Some (Send (SwitchOff off) left)) (SwitchOff off) marks failed
  stays-sent-off (Deselect h) left v marks stays at finds =
      stays-deselected h (Some (Send (SwitchOff (Deselect h)) left)) v marks stays at finds
  stays-sent-off (Close on mux kind) left v marks stays at finds =
      stays-closed on mux kind (Some (Send (SwitchOff (Close on mux kind)) left)) v marks stays at finds (λ e. e)

  stays-shifted-off : (off : Off) (v : Slots) (marks : List Mark) → mark_among marks p (Some m) ≡ Some m
      → (v p).slot ≡ Marked m → FindsOpen off (v (off_bus off)).slot → (failed : Bool)
      → StaysOr (Some (Shift (SwitchOff off))) (SwitchOff off) marks failed
  stays-shifted-off (Deselect h) v marks stays at finds =
      stays-deselected h (Some (Shift (SwitchOff (Deselect h)))) v marks stays at finds
  stays-shifted-off (Close on mux kind) v marks stays at finds =
      stays-closed on mux kind (Some (Shift (SwitchOff (Close on mux kind)))) v marks stays at finds (λ e. e)

module _ (b : BoardView) (tree : IsTree b) (plain : IsPlainBoard b) (lines : LinesAreLocked b) (asks : Asks) (some : AsksForMessages asks)
    (callers : ℕ) where
  module _ (past : List Entry) (steps : IsStepwise b callers asks past) (c : ℕ) where
    abbrev n : Now
    n = now b asks past

    module _ (p m : ℕ) (marked : mark b asks past p ≡ Some m) where
      at_mark : (n.slot p).slot ≡ Marked m
      at_mark = marked_slot (n.slot p).slot m marked

      stays-sent : (job : Job) (left : ℕ) → IsNext b asks n c (Send job left) → (failed : Bool)
          → StaysOr p m (Some (Send job left)) job (first_note (current b asks n c)).marks failed
      stays-sent (Call bus ms) left next failed = inl refl
      stays-sent (Select h) left next failed =
          let may = sends b tree plain lines asks some callers past steps c (Select h) left next in
          stays-select p m h left (Some (Send (Select h) left)) n.slot (first_note (current b asks n c)).marks
          (among_stays p m b (n.held c) n.slot (first_note (current b asks n c)).marks may.may_fail at_mark) at_mark may.finds.0 failed
      stays-sent (SwitchOff off) left next failed =
          let may = sends b tree plain lines asks some callers past steps c (SwitchOff off) left next in
          stays-sent-off p m off left n.slot (first_note (current b asks n c)).marks
          (among_stays p m b (n.held c) n.slot (first_note (current b asks n c)).marks may.may_fail at_mark) at_mark may.finds.0 failed

      stays-lined : (job : Job) → IsNext b asks n c (Shift job) → (failed : Bool)
          → StaysOr p m (Some (Shift job)) job (first_note (current b asks n c)).marks failed
      stays-lined (Call bus ms) next failed = inl refl
      stays-lined (Select h) next failed =
          let may = shifts b tree plain lines asks some callers past steps c (Select h) next in
          stays-select p m h zero (Some (Shift (Select h))) n.slot (first_note (current b asks n c)).marks
          (among_stays p m b (n.held c) n.slot (first_note (current b asks n c)).marks may.may_fail at_mark) at_mark may.finds.0 failed
      stays-lined (SwitchOff off) next failed =
          let may = shifts b tree plain lines asks some callers past steps c (SwitchOff off) next in
          stays-shifted-off p m off n.slot (first_note (current b asks n c)).marks
          (among_stays p m b (n.held c) n.slot (first_note (current b asks n c)).marks may.may_fail at_mark) at_mark may.finds.0 failed

  -- an entry more leaves a mark, or it is the close
  read_mark : (e : Entry) (past : List Entry) (p m : ℕ) → mark b asks past p ≡ Some m
      → mark b asks (e ∷ past) p ≡ mark_by (first_act (current b asks (now b asks past) (caller_of e)))
      (first_note (current b asks (now b asks past) (caller_of e))) e p (Some m)
  read_mark e past p m marked =
      mark-left b asks (e ∷ past) p
      ∙ ap (λ (o : Option ℕ). mark_by (first_act (current b asks (now b asks past) (caller_of e)))
      (first_note (current b asks (now b asks past) (caller_of e))) e p o)
      (sym (mark-left b asks past p) ∙ marked)

  pub mark-stays : (e : Entry) (past : List Entry) → IsStepwise b callers asks (e ∷ past) → (p m : ℕ) → mark b asks past p ≡ Some m
      → (mark b asks (e ∷ past) p ≡ Some m) ⊎ HasClosed b asks p m e past
  mark-stays (entry.Take c l) past steps p m marked = inl (read_mark (entry.Take c l) past p m marked)
  mark-stays (entry.Free c l) past steps p m marked = inl (read_mark (entry.Free c l) past p m marked)
  mark-stays (entry.Settle c r cut) past steps p m marked = inl (read_mark (entry.Settle c r cut) past p m marked)
  mark-stays (entry.Line c mux level failed) past steps p m marked =
      let job : Job = steps.0.2.0 in
      let next : IsNext b asks (now b asks past) c (Shift job) = steps.0.2.1 in
      elim (stays-lined past steps.1 c p m marked job next failed) [
        | inl stays ↦ inl (read_mark (entry.Line c mux level failed) past p m marked
            ∙ ap (λ (o : Option Act). mark_lined o (first_note (current b asks (now b asks past) c)) failed p (Some m)) next ∙ stays)
        | inr closes ↦ inr (subst (λ (o : Option Act). Closes p m o) (sym next) closes.0, closes.1)
      ]
  mark-stays (entry.Message c bus why part parts addr reading bytes heard x) past steps p m marked =
      let job : Job = steps.0.2.0 in
      let next : IsNext b asks (now b asks past) c (Send job steps.0.2.1) = steps.0.2.2 in
      elim (stays-sent past steps.1 c p m marked job steps.0.2.1 next (is_cut x)) [
        | inl stays ↦ inl (read_mark (entry.Message c bus why part parts addr reading bytes heard x) past p m marked
            ∙ ap (λ (o : Option Act). mark_sent o (first_note (current b asks (now b asks past) c)) (is_cut x) p (Some m)) next ∙ stays)
        | inr closes ↦ inr (subst (λ (o : Option Act). Closes p m o) (sym next) closes.0, closes.1)
      ]

  -- until then
  pub mark-until : (later past : List Entry) → IsStepwise b callers asks (later ++ past) → (p m : ℕ) → mark b asks past p ≡ Some m
      → NoneCloses b asks p m later past
      → mark b asks (later ++ past) p ≡ Some m
  mark-until [] past steps p m marked none = marked
  mark-until (e ∷ later) past steps p m marked none =
      elim (mark-stays e (later ++ past) steps p m (mark-until later past steps.1 p m marked none.1))
      [ inl stays ↦ stays | inr closes ↦ absurd (none.0 closes) ]

  -- no message goes through a mux on a marked bus
  passes : (e : Entry) (past : List Entry) → IsStepwise b callers asks (e ∷ past) → (p m : ℕ) → mark b asks past p ≡ Some m
      → OfMessage (PassesBy b p) e
  passes (entry.Take c l) past steps p m marked = tt
  passes (entry.Free c l) past steps p m marked = tt
  passes (entry.Settle c r cut) past steps p m marked = tt
  passes (entry.Line c mux level failed) past steps p m marked = tt
  passes (entry.Message c bus why part parts addr reading bytes heard x) past steps p m marked = λ g among same.
      let may = steps.0.2 in
      let there : IsAmongHops g (hops b (job_bus may.0)) = subst (λ (s : ℕ). IsAmongHops g (hops b s)) may.3.on_bus among in
      let selected : ((now b asks past).slot g.on).slot ≡ Clean =
      ((sends b tree plain lines asks some callers past steps.1 c may.0 may.1 may.2).reached g there).0.clean in
      let f : None ≡ Some m = sym (ap mark_in selected) ∙ ap (λ (q : ℕ). mark b asks past q) same ∙ marked in cc

  pub passes-until : (e : Entry) (later past : List Entry) → IsStepwise b callers asks (e ∷ (later ++ past)) → (p m : ℕ)
      → mark b asks past p ≡ Some m → NoneCloses b asks p m later past
      → OfMessage (PassesBy b p) e
  passes-until e later past steps p m marked none = passes e (later ++ past) steps p m (mark-until later past steps.1 p m marked none)
