-- Each settle stands directly after the message or line step that decides it, and tells that entry's cut. The
-- inductions go over the entries.
use Rattle.bus_laws.proofs.Cited.{◌≡◌, ℕ, zero, suc, ◌<◌, Bool, true, false, cond, List, [], ◌∷◌, Option, Some, None, eqb, refl, sym, ◌∙◌}
use Rattle.bus_laws.proofs.Cited.{ap, subst, ◌⊎◌, inl, inr, eq-eqb, ne_eqb, eqb_tells, Errno, Entry, Reply, Cut, BoardView, TransferView}
use Rattle.bus_laws.proofs.Cited.{refusal, Asks, changed_at, Job, Call, Select, SwitchOff, Act, Take, Free, Send, Shift, Settle, ActOutcome}
use Rattle.bus_laws.proofs.Cited.{Passed, Sent, Lined, Note, WalkTree, Ends, Look, Then, goes, verdict_of, Slots, answer_to, seen, is_over}
use Rattle.bus_laws.proofs.Cited.{first_act, first_note, rest_of, caller_of, replies, cut_told, Now, begun, current, step, now, is_on}
use Rattle.bus_laws.proofs.Cited.{is_due, sent_by, lined_by, with_due, moved, IsNext, May, IsStepwise, is_stepping, AsksForMessages}
use Rattle.bus_laws.proofs.Cited.{NoSettle, IsDecided, GoesOn, Settles, IsAsked}
use Rattle.i2c_base.specs.declared.entry.Entry.TheVariants as entry
use Rattle.bus_spec.specs.Readings.{last_cut}
use Rattle.bus_spec.specs.Legal.{IsDirectlyBehind, IsPlaced, SettleAt, KeepsSettles}
use Rattle.bus_laws.proofs.past.StandsStep.{at_same, at_other}
use Rattle.bus_laws.proofs.past.StandsEntries.{first_is}
use Rattle.bus_laws.proofs.walk.SettleLaw.{walk-starts}
use Rattle.bus_laws.proofs.past.Asked.{current-asked, past-asked, settled-told}

-- a walk that settles nothing next
pub starts_seen : (v : Slots) (w : WalkTree) → NoSettle w → NoSettle (seen v w)
starts_seen v Ends h = h
starts_seen v (Look ask next) h = starts_seen v (next (answer_to v ask)) (h (answer_to v ask))
starts_seen v (Then act note next) h = h

pub no_settle : (w : WalkTree) (verdict : Option Errno) → NoSettle w → first_act w ≡ Some (Settle verdict) → ⊥
no_settle Ends verdict h e = (let f : None ≡ Some (Settle verdict) = e in cc)
no_settle (Look ask next) verdict h e = (let f : None ≡ Some (Settle verdict) = e in cc)
no_settle (Then (Take l) note next) verdict h e = (let f : Some (Take l) ≡ Some (Settle verdict) = e in cc)
no_settle (Then (Free l) note next) verdict h e = (let f : Some (Free l) ≡ Some (Settle verdict) = e in cc)
no_settle (Then (Send job left) note next) verdict h e = (let f : Some (Send job left) ≡ Some (Settle verdict) = e in cc)
no_settle (Then (Shift job) note next) verdict h e = (let f : Some (Shift job) ≡ Some (Settle verdict) = e in cc)
no_settle (Then (Settle v) note next) verdict h e = h

pub sends_next : (w : WalkTree) (job : Job) (left : ℕ) → first_act w ≡ Some (Send job left) → NoSettle w
sends_next Ends job left e = tt
sends_next (Look ask next) job left e = absurd (let f : None ≡ Some (Send job left) = e in cc)
sends_next (Then (Take l) note next) job left e = tt
sends_next (Then (Free l) note next) job left e = tt
sends_next (Then (Send j k) note next) job left e = tt
sends_next (Then (Shift j) note next) job left e = tt
sends_next (Then (Settle v) note next) job left e = absurd (let f : Some (Settle v) ≡ Some (Send job left) = e in cc)

-- after a message a walk settles, or it doesn't before its next step
abbrev Decided : WalkTree → Type 0
Decided w = NoSettle w ⊎ ((verdict : Option Errno) × (first_act w ≡ Some (Settle verdict)))

decided_so : (note : Note) (job : Job) (left : ℕ) (out : ActOutcome) (w : WalkTree) → IsDecided note job left out w → Decided w
decided_so note job left out w e = elim e [ inl quiet ↦ inl quiet | inr settle ↦ inr (verdict_of job left out, settle.2) ]

goes_decided : (note : Note) (job : Job) (left : ℕ) (out : ActOutcome) (w : WalkTree) → GoesOn note job left out w → Decided w
goes_decided note (Call bus ms) zero out w e = inr (verdict_of (Call bus ms) zero out, e)
goes_decided note (Call bus ms) (suc left) out w e = by_on (is_on (goes (Call bus ms) left out)) refl
  where
    by_on : (t : Bool) → is_on (goes (Call bus ms) left out) ≡ t → Decided w
    by_on true on = inl (sends_next w (Call bus ms) left (e
        ∙ ap (λ (t : Bool). Some (cond t (Send (Call bus ms) left) (Settle (verdict_of (Call bus ms) (suc left) out)))) on))
    by_on false off = inr (
      verdict_of (Call bus ms) (suc left) out,
      e
          ∙ ap (λ (t : Bool). Some (cond t (Send (Call bus ms) left) (Settle (verdict_of (Call bus ms) (suc left) out)))) off,
    )
goes_decided note (Select h) left out w e = decided_so note (Select h) left out w e
goes_decided note (SwitchOff off) left out w e = decided_so note (SwitchOff off) left out w e

-- who would settle next is due
abbrev pub AreDue : Now → Type 0
AreDue n = (c : ℕ) → (n.due ≡ Some c) ⊎ NoSettle (n.walk c)

not_due : (c : ℕ) (o : Option ℕ) (w : WalkTree) → o ≡ None → (o ≡ Some c) ⊎ NoSettle w → NoSettle w
not_due c o w none either = elim either [ inl due ↦ absurd (let f : None ≡ Some c = sym none ∙ due in cc) | inr h ↦ h ]

module _ (b : BoardView) (asks : Asks) (some : AsksForMessages asks) (callers : ℕ) (past : List Entry)
    (steps : IsStepwise b callers asks past) where
  abbrev n : Now
  n = now b asks past

  abbrev pub asked : (d : ℕ) → IsAsked b asks d (current b asks n d) (n.settled d)
  asked d = current-asked b asks some n (past-asked b asks some callers past steps) d

  -- what is left of a walk settles as the whole
  pub rest_settles : (d : ℕ) (act : Act) (first : IsNext b asks n d act)
      → (note : Note) × (next : ActOutcome → WalkTree) × (current b asks n d ≡ Then act note next)
      × Settles (asked d).done (Then act note next)
  rest_settles d act first =
      let at = first_is (current b asks n d) act first in
      (at.0, at.1, at.2, subst (λ (w : WalkTree). Settles (asked d).done w) at.2 (asked d).settles)

  module _ (due : AreDue n) where
    -- of a step that settles nothing next
    quiet_step : (d : ℕ) (out : ActOutcome) → ((c : ℕ) → (c ≡ d → ⊥) → NoSettle (n.walk c)) → NoSettle (rest_of (current b asks n d) out)
        → (c : ℕ) → NoSettle (changed_at n.walk d (rest_of (current b asks n d) out) c)
    quiet_step d out others own c =
        elim (eqb_tells c d) [
          | inl h ↦ subst (λ (i : ℕ). NoSettle (changed_at n.walk d (rest_of (current b asks n d) out) i)) (sym h.1)
              (subst (λ (w : WalkTree). NoSettle w) (sym (at_same n.walk d (rest_of (current b asks n d) out))) own)
          | inr h ↦ subst (λ (w : WalkTree). NoSettle w) (sym (at_other n.walk d (rest_of (current b asks n d) out) c h.1)) (others c h.1)
        ]

    -- of a message or a line step
    bus_step : (d : ℕ) (out : ActOutcome) → n.due ≡ None → Decided (rest_of (current b asks n d) out) → (c : ℕ)
        → (cond (is_due (first_act (changed_at n.walk d (rest_of (current b asks n d) out) d))) (Some d) None ≡ Some c)
        ⊎ NoSettle (changed_at n.walk d (rest_of (current b asks n d) out) c)
    bus_step d out none decided c =
        elim (eqb_tells c d) [
          | inl h ↦ elim decided [
            | inl quiet ↦ inr (subst (λ (i : ℕ). NoSettle (changed_at n.walk d (rest_of (current b asks n d) out) i)) (sym h.1)
                (subst (λ (w : WalkTree). NoSettle w) (sym (at_same n.walk d (rest_of (current b asks n d) out))) quiet))
            | inr settle ↦ inl (
                ap (λ (w : WalkTree). cond (is_due (first_act w)) (Some d) None) (at_same n.walk d (rest_of (current b asks n d) out))
                ∙ ap (λ (o : Option Act). cond (is_due o) (Some d) None) settle.1 ∙ ap Some (sym h.1))
          ]
          | inr h ↦ inr (subst (λ (w : WalkTree). NoSettle w) (sym (at_other n.walk d (rest_of (current b asks n d) out) c h.1))
              (not_due c n.due (n.walk c) none (due c)))
        ]

    rest_is : (d : ℕ) (act : Act) (note : Note) (next : ActOutcome → WalkTree) (out : ActOutcome) (P : WalkTree → Type 0)
        → current b asks n d ≡ Then act note next → P (next out) → P (rest_of (current b asks n d) out)
    rest_is d act note next out P e h = subst (λ (w : WalkTree). P (rest_of w out)) (sym e) h

    -- one more entry
    step_due : (x : Entry) → May b callers asks n x → AreDue (step b asks n x)
    step_due (entry.Take d l) may = λ c.
        inr (quiet_step d Passed (λ i ne. not_due i n.due (n.walk i) may.1 (due i))
        (let r = rest_settles d (Take l) may.2 in rest_is d (Take l) r.0 r.1 Passed NoSettle r.2 r.3.0) c)
    step_due (entry.Free d l) may = λ c.
        inr (quiet_step d Passed (λ i ne. not_due i n.due (n.walk i) may.1 (due i))
        (let r = rest_settles d (Free l) may.2 in rest_is d (Free l) r.0 r.1 Passed NoSettle r.2 r.3.0) c)
    step_due (entry.Settle d x cut) may = λ c.
        inr (quiet_step d Passed (λ i ne. elim (due i) [
          | inl mine ↦ absurd (elim may.1 [
            | inl none ↦ (let f : None ≡ Some i = sym none ∙ mine in cc)
            | inr theirs ↦ ne (let f : Some i ≡ Some d = sym mine ∙ theirs in cc)
          ])
          | inr h ↦ h
        ])
        (let r = rest_settles d (Settle may.2) may.3 in rest_is d (Settle may.2) r.0 r.1 Passed NoSettle r.2 r.3.1) c)
    step_due (entry.Line d mux level failed) may =
        subst (λ (o : Option Act). AreDue
        (with_due d (moved b asks n (lined_by b n o (first_note (current b asks n d)) failed) d (entry.Line d mux level failed)
        (Lined failed)))) (sym may.2.1)
        (λ c. bus_step d (Lined failed) may.1
        (let r = rest_settles d (Shift may.2.0) may.2.1 in
        rest_is d (Shift may.2.0) r.0 r.1 (Lined failed) Decided r.2
        (decided_so r.0 may.2.0 zero (Lined failed) (r.1 (Lined failed)) (r.3 failed).0)) c)
    step_due (entry.Message d bus purpose part parts addr reading bytes heard e) may =
        subst (λ (o : Option Act). AreDue
        (with_due d (moved b asks n (sent_by b n d o (first_note (current b asks n d)) reading bytes e) d
        (entry.Message d bus purpose part parts addr reading bytes heard e) (Sent e bytes)))) (sym may.2.2)
        (λ c. bus_step d (Sent e bytes) may.1
        (let r = rest_settles d (Send may.2.0 may.2.1) may.2.2 in
        rest_is d (Send may.2.0 may.2.1) r.0 r.1 (Sent e bytes) Decided r.2
        (goes_decided r.0 may.2.0 may.2.1 (Sent e bytes) (r.1 (Sent e bytes)) (r.3.1 e bytes).0)) c)

-- each caller's cut is that of its last entry
module _ (b : BoardView) (asks : Asks) where
  cut_turned : (past : List Entry) (c d : ℕ) (cut : Cut) → (now b asks past).cut c ≡ last_cut past c
      → changed_at (now b asks past).cut d cut c ≡ cond (eqb d c) cut (last_cut past c)
  cut_turned past c d cut before =
      elim (eqb_tells c d) [
        | inl h ↦ ap (λ (t : Bool). cond t cut ((now b asks past).cut c)) h.0
            ∙ sym (ap (λ (t : Bool). cond t cut (last_cut past c)) (eq-eqb d c (sym h.1)))
        | inr h ↦ ap (λ (t : Bool). cond t cut ((now b asks past).cut c)) h.0 ∙ before
            ∙ sym (ap (λ (t : Bool). cond t cut (last_cut past c)) (ne_eqb d c (λ f. h.1 (sym f))))
      ]

  pub cut-told : (past : List Entry) (c : ℕ) → (now b asks past).cut c ≡ last_cut past c
  cut-told [] c = refl
  cut-told (entry.Take d l ∷ past) c = cut_turned past c d (cut_told (entry.Take d l)) (cut-told past c)
  cut-told (entry.Free d l ∷ past) c = cut_turned past c d (cut_told (entry.Free d l)) (cut-told past c)
  cut-told (entry.Settle d x cut ∷ past) c = cut_turned past c d (cut_told (entry.Settle d x cut)) (cut-told past c)
  cut-told (entry.Line d mux level failed ∷ past) c = cut_turned past c d (cut_told (entry.Line d mux level failed)) (cut-told past c)
  cut-told (entry.Message d bus purpose part parts addr reading bytes heard e ∷ past) c =
      cut_turned past c d (cut_told (entry.Message d bus purpose part parts addr reading bytes heard e)) (cut-told past c)

-- a caller's settle is due: its last entry is a message or a line step, before which none was due
pub record IsDueBehind (b : BoardView) (callers : ℕ) (asks : Asks) (past : List Entry) (c : ℕ) : Type 0 where
  pub last : Entry
  pub before : List Entry
  pub past_is : past ≡ last ∷ before
  pub own : caller_of last ≡ c
  pub stepping : is_stepping last ≡ true
  pub none_before : (now b asks before).due ≡ None
  pub known : c < callers
  pub verdict : Option Errno
  pub settles : first_act ((now b asks past).walk c) ≡ Some (Settle verdict)

settle_due : (w : WalkTree) (d c : ℕ) → cond (is_due (first_act w)) (Some d) None ≡ Some c
    → (d ≡ c) × (verdict : Option Errno) × (first_act w ≡ Some (Settle verdict))
settle_due w d c due = by (first_act w) refl
  where
    none : (o : Option Act) → first_act w ≡ o → is_due o ≡ false
        → (d ≡ c) × (verdict : Option Errno) × (first_act w ≡ Some (Settle verdict))
    none o e quiet = absurd (let f : None ≡ Some c = sym (ap (λ (x : Bool). cond x (Some d) None) (ap is_due e ∙ quiet)) ∙ due in cc)

    by : (o : Option Act) → first_act w ≡ o → (d ≡ c) × (verdict : Option Errno) × (first_act w ≡ Some (Settle verdict))
    by None e = none None e refl
    by (Some (Take l)) e = none (Some (Take l)) e refl
    by (Some (Free l)) e = none (Some (Free l)) e refl
    by (Some (Send job left)) e = none (Some (Send job left)) e refl
    by (Some (Shift job)) e = none (Some (Shift job)) e refl
    by (Some (Settle verdict)) e =
        ((let f : Some d ≡ Some c = sym (ap (λ (o : Option Act). cond (is_due o) (Some d) None) e) ∙ due in cc), verdict, e)

module _ (b : BoardView) (asks : Asks) (some : AsksForMessages asks) (callers : ℕ) where
  -- THE INDUCTION
  pub past-due : (past : List Entry) → IsStepwise b callers asks past → AreDue (now b asks past)
  past-due [] steps = λ c. inr tt
  past-due (e ∷ past) steps = step_due b asks some callers past steps.1 (past-due past steps.1) e steps.0

  -- whose settle is due made the last entry, on the bus, and settles next
  pub due-made : (past : List Entry) (c : ℕ) → IsStepwise b callers asks past → (now b asks past).due ≡ Some c
      → IsDueBehind b callers asks past c
  due-made [] c steps due = absurd (let f : None ≡ Some c = due in cc)
  due-made (entry.Take d l ∷ past) c steps due = absurd (let f : None ≡ Some c = sym steps.0.1 ∙ due in cc)
  due-made (entry.Free d l ∷ past) c steps due = absurd (let f : None ≡ Some c = sym steps.0.1 ∙ due in cc)
  due-made (entry.Settle d x cut ∷ past) c steps due = absurd (let f : None ≡ Some c = due in cc)
  due-made (entry.Line d mux level failed ∷ past) c steps due =
      let next = settle_due ((now b asks (entry.Line d mux level failed ∷ past)).walk d) d c due in
      record {
        last = entry.Line d mux level failed;
        before = past;
        past_is = refl;
        own = next.0;
        stepping = refl;
        none_before = steps.0.1;
        known = subst (λ (i : ℕ). i < callers) next.0 steps.0.0;
        verdict = next.1;
        settles = subst (λ (i : ℕ). first_act ((now b asks (entry.Line d mux level failed ∷ past)).walk i) ≡ Some (Settle next.1)) next.0
            next.2;
      }
  due-made (entry.Message d bus purpose part parts addr reading bytes heard e ∷ past) c steps due =
      let next = settle_due ((now b asks (entry.Message d bus purpose part parts addr reading bytes heard e ∷ past)).walk d) d c due in
      record {
        last = entry.Message d bus purpose part parts addr reading bytes heard e;
        before = past;
        past_is = refl;
        own = next.0;
        stepping = refl;
        none_before = steps.0.1;
        known = subst (λ (i : ℕ). i < callers) next.0 steps.0.0;
        verdict = next.1;
        settles = subst (λ (i : ℕ). first_act
            ((now b asks (entry.Message d bus purpose part parts addr reading bytes heard e ∷ past)).walk i) ≡ Some (Settle next.1)) next.0
            next.2;
      }

  due_behind : (past : List Entry) (c : ℕ) → IsStepwise b callers asks past → (now b asks past).due ≡ Some c → IsDirectlyBehind c past
  due_behind past c steps due =
      let made : IsDueBehind b callers asks past c = due-made past c steps due in
      subst (λ (p : List Entry). IsDirectlyBehind c p) (sym made.past_is) (made.own, made.stepping)

  -- WHERE A SETTLE STANDS
  module _ (past : List Entry) (steps : IsStepwise b callers asks past) (c : ℕ) (verdict : Option Errno)
      (next : IsNext b asks (now b asks past) c (Settle verdict)) where
    own : IsAsked b asks c (current b asks (now b asks past) c) ((now b asks past).settled c)
    own = current-asked b asks some (now b asks past) (past-asked b asks some callers past steps) c

    is_asked : asks c ((now b asks past).settled c) ≡ Some own.whose
    is_asked =
        let at = first_is (current b asks (now b asks past) c) (Settle verdict) next in
        let settles : Settles own.done (Then (Settle verdict) at.0 at.1) = subst (λ (w : WalkTree). Settles own.done w) at.2 own.settles in
        own.asked settles.0

    -- a transfer that steps on the bus begins with no settle
    begins : (o : Option TransferView) → asks c ((now b asks past).settled c) ≡ o → refusal b own.whose ≡ None → NoSettle (begun b o)
    begins None e accepted = tt
    begins (Some t) e accepted =
        let same : t ≡ own.whose = (let f : Some t ≡ Some own.whose = sym e ∙ is_asked in cc) in
        walk-starts b t (ap (λ (x : TransferView). refusal b x) same ∙ accepted)

    placed : refusal b own.whose ≡ None → IsDirectlyBehind c past
    placed accepted = by_over (is_over ((now b asks past).walk c)) refl
      where
        never : NoSettle (current b asks (now b asks past) c) → IsDirectlyBehind c past
        never h = absurd (no_settle (current b asks (now b asks past) c) verdict h next)

        by_over : (t : Bool) → is_over ((now b asks past).walk c) ≡ t → IsDirectlyBehind c past
        by_over true over =
            never (starts_seen (now b asks past).slot
            (cond (is_over ((now b asks past).walk c)) (begun b (asks c ((now b asks past).settled c))) ((now b asks past).walk c))
            (subst (λ (t : Bool). NoSettle (cond t (begun b (asks c ((now b asks past).settled c))) ((now b asks past).walk c))) (sym over)
            (begins (asks c ((now b asks past).settled c)) refl accepted)))
        by_over false over =
            elim (past-due past steps c) [
              | inl due ↦ due_behind past c steps due
              | inr h ↦ never (starts_seen (now b asks past).slot
                  (cond (is_over ((now b asks past).walk c)) (begun b (asks c ((now b asks past).settled c))) ((now b asks past).walk c))
                  (subst (λ (t : Bool). NoSettle (cond t (begun b (asks c ((now b asks past).settled c))) ((now b asks past).walk c)))
                  (sym over) h))
            ]

    pub settle_placed : IsPlaced b (asks c (replies past c)) c past
    settle_placed =
        subst (λ (o : Option TransferView). IsPlaced b o c past)
        (sym (ap (λ (rs : List Reply). asks c rs) (sym (settled-told b asks past c)) ∙ is_asked)) placed

  settle_at : (e : Entry) (past : List Entry) → IsStepwise b callers asks past → May b callers asks (now b asks past) e
      → SettleAt b asks e past
  settle_at (entry.Take c l) past steps may = tt
  settle_at (entry.Free c l) past steps may = tt
  settle_at (entry.Message c bus purpose part parts addr reading bytes heard e) past steps may = tt
  settle_at (entry.Line c mux level failed) past steps may = tt
  settle_at (entry.Settle c r cut) past steps may = (may.5 ∙ cut-told b asks past c, settle_placed past steps c may.2 may.3)

  pub settles-kept : (past : List Entry) → IsStepwise b callers asks past → KeepsSettles b asks past
  settles-kept [] steps = tt
  settles-kept (e ∷ past) steps = (settle_at e past steps.1 steps.0, settles-kept past steps.1)
