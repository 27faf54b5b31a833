-- What a caller does next stays while others step. No induction but over the looks in front of a walk.
use Rattle.bus_laws.proofs.Cited.{◌≡◌, ℕ, Bool, List, Option, Some, refl, sym, ◌∙◌, ap, subst, LockId, End, Entry, BoardView, TransferView}
use Rattle.bus_laws.proofs.Cited.{IsTree, Asks, Job, Act, Send, Shift, ActOutcome, Sent, Lined, ask_bus, WalkTree, Ends, Look, Then, Slots}
use Rattle.bus_laws.proofs.Cited.{answer_to, after_job, seen, first_act, first_note, caller_of, Now, current, step, sent_by, lined_by, May}
use Rattle.bus_laws.proofs.Cited.{InLocks, MaySend, MayShift, CanSend, CanShift, Runs, LinesAreLocked, AsksForMessages, Stands, ahead}
use Rattle.bus_laws.proofs.Cited.{CallerTold}
use Rattle.i2c_base.specs.declared.ids.LockId.TheVariants as lock
use Rattle.i2c_base.specs.declared.entry.Entry.TheVariants as entry
use Rattle.bus_laws.proofs.past.StandsFacts.{answer_alike, ahead-stands, current-stands}
use Rattle.bus_laws.proofs.past.StandsStep.{job_off, send_known, shift_known}
use Rattle.bus_laws.proofs.past.StandsEntries.{first_is}
use Rattle.bus_laws.proofs.past.Others.{others-stay}

-- the looks of a walk that runs find the same where the buses whose locks it holds are as they were
seen_same : (b : BoardView) (whose : TransferView) (held : List LockId) (view v w : Slots)
    → ((p : ℕ) → InLocks (lock.Mux p) held → view p ≡ v p) → ((p : ℕ) → InLocks (lock.Mux p) held → v p ≡ w p)
    → (t : WalkTree) → Runs b whose held view t → seen v t ≡ seen w t
seen_same b whose held view v w agree same Ends runs = refl
seen_same b whose held view v w agree same (Look ask next) runs =
    let told : view (ask_bus ask) ≡ v (ask_bus ask) = agree (ask_bus ask) runs.0 in
    ap (λ (x : Option ℕ). seen v (next x)) (sym (answer_alike ask view v told))
    ∙ seen_same b whose held view v w agree same (next (answer_to view ask)) runs.1
    ∙ ap (λ (x : Option ℕ). seen w (next x)) (answer_alike ask view w (told ∙ same (ask_bus ask) runs.0))
seen_same b whose held view v w agree same (Then act note next) runs = refl

module _ (b : BoardView) (tree : IsTree b) (lines : LinesAreLocked b) (asks : Asks) (some : AsksForMessages asks) (n : Now)
    (stands : Stands b n) where
  -- a step changes what is known of no bus whose lock another holds
  module _ (d : ℕ) (p : ℕ) (locked : InLocks (lock.Mux p) (n.held d)) where
    apart : (c : ℕ) → (d ≡ c → ⊥) → InLocks (lock.Mux p) (n.held c) → ⊥
    apart c other own = other (let e : Some d ≡ Some c = sym (stands.holds d (lock.Mux p) locked) ∙ stands.holds c (lock.Mux p) own in cc)

    sent_slot : (c : ℕ) → (d ≡ c → ⊥) → (job : Job) (left : ℕ) (e : End) (bytes : List ℕ)
        → first_act (current b asks n c) ≡ Some (Send job left)
        → after_job job left (first_note (current b asks n c)).marks (Sent e bytes) n.slot p ≡ n.slot p
    sent_slot c other job left e bytes first =
        let cur = current-stands b tree lines asks some n c stands in
        let at = first_is (current b asks n c) (Send job left) first in
        let runs : MaySend b cur.whose job left at.0.marks (n.held c) cur.view
        × ((out : ActOutcome) → CanSend b job left out
        → Runs b cur.whose (n.held c) (after_job job left at.0.marks out cur.view) (at.1 out)) =
        subst (λ (w : WalkTree). Runs b cur.whose (n.held c) cur.view w) at.2 cur.runs in
        let may = send_known b (n.held c) cur.view n.slot cur.agree cur.whose job left at.0.marks runs.0 in
        ap (λ (w : WalkTree). after_job job left (first_note w).marks (Sent e bytes) n.slot p) at.2
        ∙ job_off b (n.held c) n.slot at.0.marks p may.may_fail (apart c other) job left (Sent e bytes) n.slot may.owns

    lined_slot : (c : ℕ) → (d ≡ c → ⊥) → (job : Job) (failed : Bool) → first_act (current b asks n c) ≡ Some (Shift job)
        → after_job job 0 (first_note (current b asks n c)).marks (Lined failed) n.slot p ≡ n.slot p
    lined_slot c other job failed first =
        let cur = current-stands b tree lines asks some n c stands in
        let at = first_is (current b asks n c) (Shift job) first in
        let runs : MayShift b job at.0.marks (n.held c) cur.view
        × ((out : ActOutcome) → CanShift b job out → Runs b cur.whose (n.held c) (after_job job 0 at.0.marks out cur.view) (at.1 out)) =
        subst (λ (w : WalkTree). Runs b cur.whose (n.held c) cur.view w) at.2 cur.runs in
        let may = shift_known b (n.held c) cur.view n.slot cur.agree job at.0.marks runs.0 in
        ap (λ (w : WalkTree). after_job job 0 (first_note w).marks (Lined failed) n.slot p) at.2
        ∙ job_off b (n.held c) n.slot at.0.marks p may.may_fail (apart c other) job 0 (Lined failed) n.slot may.owns

    slot-stays : (callers : ℕ) (e : Entry) → May b callers asks n e → (d ≡ caller_of e → ⊥) → (step b asks n e).slot p ≡ n.slot p
    slot-stays callers (entry.Take c l) may other = refl
    slot-stays callers (entry.Free c l) may other = refl
    slot-stays callers (entry.Settle c r cut) may other = refl
    slot-stays callers (entry.Message c bus why part parts addr reading bytes heard e) may other =
        ap (λ (o : Option Act). (sent_by b n c o (first_note (current b asks n c)) reading bytes e).slot p) may.2.2
        ∙ sent_slot c other may.2.0 may.2.1 e bytes may.2.2
    slot-stays callers (entry.Line c mux level failed) may other =
        ap (λ (o : Option Act). (lined_by b n o (first_note (current b asks n c)) failed).slot p) may.2.1
        ∙ lined_slot c other may.2.0 failed may.2.1

  -- so what a caller does next stays while others step
  pub next-stays : (callers : ℕ) (e : Entry) → May b callers asks n e → (d : ℕ) → (d ≡ caller_of e → ⊥)
      → current b asks (step b asks n e) d ≡ current b asks n d
  next-stays callers e may d other =
      let told : CallerTold b asks (step b asks n e) d (ahead b asks n d) (n.settled d) (n.got d) (n.cut d) =
      others-stay b asks n e d (ahead b asks n d) (n.settled d) (n.got d) (n.cut d) other
      (record { walk = refl; settled = refl; got_is = refl; cut_is = refl }) in
      let cs = ahead-stands b tree lines asks some n d stands in
      ap (seen (step b asks n e).slot) told.walk
      ∙ sym (seen_same b cs.whose (n.held d) cs.view n.slot (step b asks n e).slot cs.agree
      (λ p i. sym (slot-stays d p i callers e may other)) (ahead b asks n d) cs.runs)
