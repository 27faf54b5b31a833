-- Where a settle is due, the last entry is a message or a line step that decides it, of a transfer that isn't refused. What
-- is due for a caller stays due until it settles.
use Rattle.journal_laws.proofs.Cited.{◌≡◌, ℕ, ◌<◌, Bool, true, false, cond, List, [], ◌∷◌, Option, Some, None, refl, sym, ◌∙◌, ap, subst}
use Rattle.journal_laws.proofs.Cited.{inl, inr, eqb_tells, Errno, Entry, BoardView, TransferView, Reply, refusal, Asks, Job, Call, Select}
use Rattle.journal_laws.proofs.Cited.{SwitchOff, Take, Free, Send, Shift, Settle, ActOutcome, Sent, Lined, Note, WalkTree, Then, seen}
use Rattle.journal_laws.proofs.Cited.{is_over, first_act, rest_of, caller_of, replies, Now, begun, current, now, is_due, IsNext, TellsNext}
use Rattle.journal_laws.proofs.Cited.{IsStepwise, transfer_at, outcome_of, walk_left, IsPlaced, SettleAt, AsksForMessages, GoesOn, Settles}
use Rattle.journal_laws.proofs.Cited.{CallsOf, IsAsked, at_same, first_is, current-asked, past-asked, settled-told, no_settle, settles_next}
use Rattle.journal_laws.proofs.Cited.{ne_eqb}
use Rattle.i2c_base.specs.declared.entry.Entry.TheVariants as entry
use Rattle.bus_spec.specs.Legal.{IsDirectlyBehind}
use Rattle.bus_laws.specs.Runs.{IsGranted}
use Rattle.bus_laws.specs.Calls.{IsOnWay}
use Rattle.flat_laws.proofs.past.First.{due_settles}
use Rattle.journal_laws.proofs.past.Layers.{other_replies}
use Rattle.journal_laws.proofs.past.Places.{walk-left}

-- what a settle that is due is of
pub record IsDue (b : BoardView) (asks : Asks) (past : List Entry) (c : ℕ) : Type 0 where
  pub verdict : Option Errno
  pub next : first_act ((now b asks past).walk c) ≡ Some (Settle verdict)
  pub transfer : TransferView
  pub asked : transfer_at asks past c ≡ Some transfer
  pub accepted : refusal b transfer ≡ None

-- what decides is on the way of a transfer that isn't refused
accepted_by : (b : BoardView) (t : TransferView) (note : Note) (job : Job) (left : ℕ) (out : ActOutcome) (w : WalkTree)
    (verdict : Option Errno)
    → IsGranted b t job → IsOnWay b t note job → GoesOn note job left out w → first_act w ≡ Some (Settle verdict) → refusal b t ≡ None
accepted_by b t note (Call bus ms) left out w verdict granted way goes first = granted.not_refused
accepted_by b t note (Select h) left out w verdict granted way goes first =
    elim goes [ inl quiet ↦ absurd (no_settle w verdict quiet first) | inr decided ↦ (way decided.0).0 ]
accepted_by b t note (SwitchOff off) left out w verdict granted way goes first =
    elim goes [ inl quiet ↦ absurd (no_settle w verdict quiet first) | inr decided ↦ (way decided.0).0 ]

pub by-due : (t : Bool) (d c : ℕ) → cond t (Some d) None ≡ Some c → (t ≡ true) × (d ≡ c)
by-due true d c e = (refl, (let f : Some d ≡ Some c = e in cc))
by-due false d c e = absurd (let f : None ≡ Some c = e in cc)

module _ (b : BoardView) (asks : Asks) (some : AsksForMessages asks) (callers : ℕ) where
  module _ (past : List Entry) (steps : IsStepwise b callers asks past) (d : ℕ) where
    abbrev n : Now
    n = now b asks past

    own : IsAsked b asks d (current b asks n d) (n.settled d)
    own = current-asked b asks some n (past-asked b asks some callers past steps) d

    -- what is known after a step whose walk goes on with a settle
    record Decides (out : ActOutcome) : Type 0 where
      pub verdict : Option Errno
      pub first : first_act (rest_of (current b asks n d) out) ≡ Some (Settle verdict)
      pub transfer : TransferView
      pub asked : asks d (replies past d) ≡ Some transfer
      pub accepted : refusal b transfer ≡ None

    sent_decides : (job : Job) (left : ℕ) (e : _) (bytes : List ℕ) → IsNext b asks n d (Send job left)
        → is_due (first_act (rest_of (current b asks n d) (Sent e bytes))) ≡ true → Decides (Sent e bytes)
    sent_decides job left e bytes next due =
        let at = first_is (current b asks n d) (Send job left) next in
        let calls : CallsOf b own.whose (Then (Send job left) at.0 at.1) = subst (λ (w : WalkTree). CallsOf b own.whose w) at.2 own.calls in
        let settles : Settles own.done (Then (Send job left) at.0 at.1) = subst (λ (w : WalkTree). Settles own.done w) at.2 own.settles in
        let rest : rest_of (current b asks n d) (Sent e bytes) ≡ at.1 (Sent e bytes) = ap
        (λ (w : WalkTree). rest_of w (Sent e bytes)) at.2 in
        let will = due_settles (first_act (rest_of (current b asks n d) (Sent e bytes))) due in
        let first : first_act (at.1 (Sent e bytes)) ≡ Some (Settle will.0) = ap first_act (sym rest) ∙ will.1 in
        record {
          verdict = will.0;
          first = will.1;
          transfer = own.whose;
          asked = ap (λ (rs : List Reply). asks d rs) (sym (settled-told b asks past d))
              ∙ own.asked (settles_next (at.1 (Sent e bytes)) own.done will.0 (settles.1 e bytes).1 first);
          accepted = accepted_by b own.whose at.0 job left (Sent e bytes) (at.1 (Sent e bytes)) will.0 calls.0 calls.1
              (settles.1 e bytes).0 first;
        }

    lined_decides : (job : Job) (failed : Bool) → IsNext b asks n d (Shift job)
        → is_due (first_act (rest_of (current b asks n d) (Lined failed))) ≡ true → Decides (Lined failed)
    lined_decides job failed next due =
        let at = first_is (current b asks n d) (Shift job) next in
        let calls : CallsOf b own.whose (Then (Shift job) at.0 at.1) = subst (λ (w : WalkTree). CallsOf b own.whose w) at.2 own.calls in
        let settles : Settles own.done (Then (Shift job) at.0 at.1) = subst (λ (w : WalkTree). Settles own.done w) at.2 own.settles in
        let rest : rest_of (current b asks n d) (Lined failed) ≡ at.1 (Lined failed) = ap
        (λ (w : WalkTree). rest_of w (Lined failed)) at.2 in
        let will = due_settles (first_act (rest_of (current b asks n d) (Lined failed))) due in
        let first : first_act (at.1 (Lined failed)) ≡ Some (Settle will.0) = ap first_act (sym rest) ∙ will.1 in
        record {
          verdict = will.0;
          first = will.1;
          transfer = own.whose;
          asked = ap (λ (rs : List Reply). asks d rs) (sym (settled-told b asks past d))
              ∙ own.asked (settles_next (at.1 (Lined failed)) own.done will.0 (settles failed).1 first);
          accepted = elim (settles failed).0 [
            | inl quiet ↦ absurd (no_settle (at.1 (Lined failed)) will.0 quiet first)
            | inr decided ↦ (calls.0 decided.0).0
          ];
        }

  pub due-told : (past : List Entry) (c : ℕ) → IsStepwise b callers asks past → (now b asks past).due ≡ Some c → IsDue b asks past c
  due-told [] c steps due = absurd (let f : None ≡ Some c = due in cc)
  due-told (entry.Take d l ∷ past) c steps due = absurd (let f : None ≡ Some c = sym steps.0.1 ∙ due in cc)
  due-told (entry.Free d l ∷ past) c steps due = absurd (let f : None ≡ Some c = sym steps.0.1 ∙ due in cc)
  due-told (entry.Settle d x cut ∷ past) c steps due = absurd (let f : None ≡ Some c = due in cc)
  due-told (entry.Line d mux level failed ∷ past) c steps due =
      let will = by-due (is_due (first_act ((now b asks (entry.Line d mux level failed ∷ past)).walk d))) d c due in
      let walk = at_same (now b asks past).walk d (rest_of (current b asks (now b asks past) d) (Lined failed)) in
      let h = lined_decides past steps.1 d steps.0.2.0 failed steps.0.2.1 (ap (λ (w : WalkTree). is_due (first_act w)) (sym walk)
      ∙ will.0) in
      subst (λ (i : ℕ). IsDue b asks (entry.Line d mux level failed ∷ past) i) will.1
      (record { verdict = h.verdict; next = ap first_act walk ∙ h.first; transfer = h.transfer; asked = h.asked; accepted = h.accepted })
  due-told (entry.Message d bus purpose part parts addr reading bytes heard e ∷ past) c steps due =
      let will = by-due (is_due (first_act
      ((now b asks (entry.Message d bus purpose part parts addr reading bytes heard e ∷ past)).walk d))) d c due in
      let walk = at_same (now b asks past).walk d (rest_of (current b asks (now b asks past) d) (Sent e bytes)) in
      let h = sent_decides past steps.1 d steps.0.2.0 steps.0.2.1 e bytes steps.0.2.2
      (ap (λ (w : WalkTree). is_due (first_act w)) (sym walk) ∙ will.0) in
      subst (λ (i : ℕ). IsDue b asks (entry.Message d bus purpose part parts addr reading bytes heard e ∷ past) i) will.1
      (record { verdict = h.verdict; next = ap first_act walk ∙ h.first; transfer = h.transfer; asked = h.asked; accepted = h.accepted })

  -- and is one of the callers
  pub due-known : (past : List Entry) (c : ℕ) → IsStepwise b callers asks past → (now b asks past).due ≡ Some c → c < callers
  due-known [] c steps due = absurd (let f : None ≡ Some c = due in cc)
  due-known (entry.Take d l ∷ past) c steps due = absurd (let f : None ≡ Some c = sym steps.0.1 ∙ due in cc)
  due-known (entry.Free d l ∷ past) c steps due = absurd (let f : None ≡ Some c = sym steps.0.1 ∙ due in cc)
  due-known (entry.Settle d x cut ∷ past) c steps due = absurd (let f : None ≡ Some c = due in cc)
  due-known (entry.Line d mux level failed ∷ past) c steps due =
      subst (λ (i : ℕ). i < callers)
      (by-due (is_due (first_act ((now b asks (entry.Line d mux level failed ∷ past)).walk d))) d c due).1 steps.0.0
  due-known (entry.Message d bus purpose part parts addr reading bytes heard e ∷ past) c steps due =
      subst (λ (i : ℕ). i < callers)
      (by-due (is_due (first_act ((now b asks (entry.Message d bus purpose part parts addr reading bytes heard e ∷ past)).walk d))) d c
      due).1 steps.0.0

-- WHAT STAYS DUE
module _ (b : BoardView) (asks : Asks) where
  -- a walk that settles next does so, whatever is known of the buses
  pub due-settles : (past : List Entry) (c : ℕ) → (h : IsDue b asks past c)
      → first_act (current b asks (now b asks past) c) ≡ Some (Settle h.verdict)
  due-settles past c h =
      let at = first_is ((now b asks past).walk c) (Settle h.verdict) h.next in
      ap (λ (w : WalkTree). first_act (seen (now b asks past).slot (cond (is_over w) (begun b (asks c ((now b asks past).settled c))) w)))
      at.2

  -- its entry is a settle
  pub tells-due : (past : List Entry) (e : Entry) → (h : IsDue b asks past (caller_of e)) → TellsNext b asks (now b asks past) e
      → (r : Reply) × (cut : _) × (e ≡ entry.Settle (caller_of e) r cut)
  tells-due past (entry.Take d l) h tells = absurd (let f : Some (Take l) ≡ Some (Settle h.verdict) = sym tells ∙ due-settles past d h in
      cc)
  tells-due past (entry.Free d l) h tells = absurd (let f : Some (Free l) ≡ Some (Settle h.verdict) = sym tells ∙ due-settles past d h in
      cc)
  tells-due past (entry.Line d mux level failed) h tells =
      absurd (let f : Some (Shift tells.0) ≡ Some (Settle h.verdict) = sym tells.1 ∙ due-settles past d h in cc)
  tells-due past (entry.Message d bus purpose part parts addr reading bytes heard e) h tells =
      absurd (let f : Some (Send tells.0 tells.1) ≡ Some (Settle h.verdict) = sym tells.2 ∙ due-settles past d h in cc)
  tells-due past (entry.Settle d r cut) h tells = (r, cut, refl)

  -- another's entry stands between a message and the settle that it decides
  pub record IsParted (past : List Entry) (c : ℕ) : Type 0 where
    pub due : IsDue b asks past c
    pub apart : IsDirectlyBehind c past → ⊥

  -- an entry of another's leaves what is due
  pub still-due : (past : List Entry) (c : ℕ) (e : Entry) → IsDue b asks past c → (caller_of e ≡ c → ⊥) → IsDue b asks (e ∷ past) c
  still-due past c e h other =
      record {
        verdict = h.verdict;
        next = ap first_act (walk-left b asks (e ∷ past) c
            ∙ ap (λ (t : Bool). cond t (rest_of (current b asks (now b asks past) c) (outcome_of e)) (walk_left b asks past c))
            (ne_eqb c (caller_of e) (λ f. other (sym f)))
            ∙ sym (walk-left b asks past c)) ∙ h.next;
        transfer = h.transfer;
        asked = ap (λ (rs : List Reply). asks c rs) (other_replies b asks past c e other) ∙ h.asked;
        accepted = h.accepted;
      }

  pub parts : (past : List Entry) (c : ℕ) (e : Entry) → IsDue b asks past c → (caller_of e ≡ c → ⊥) → IsParted (e ∷ past) c
  parts past c e h other = record { due = still-due past c e h other; apart = λ behind. other behind.0 }

  pub stays-parted : (past : List Entry) (c : ℕ) (e : Entry) → IsParted past c → TellsNext b asks (now b asks past) e
      → SettleAt b asks e past → IsParted (e ∷ past) c
  stays-parted past c e h tells at =
      elim (eqb_tells (caller_of e) c) [
        | inr other ↦ parts past c e h.due other.1
        | inl own ↦ (let due : IsDue b asks past (caller_of e) = subst (λ (i : ℕ). IsDue b asks past i) (sym own.1) h.due in
            let is = tells-due past e due tells in
            let settle : SettleAt b asks (entry.Settle (caller_of e) is.0 is.1) past = subst
            (λ (x : Entry). SettleAt b asks x past) is.2 at in
            let placed : IsPlaced b (Some due.transfer) (caller_of e) past = subst
            (λ (o : Option TransferView). IsPlaced b o (caller_of e) past) due.asked settle.1 in
            absurd (h.apart (subst (λ (i : ℕ). IsDirectlyBehind i past) own.1 (placed due.accepted))))
      ]
