-- A caller that holds no lock has no walk under way, so a journal is complete where its callers are through. The induction goes over
-- the entries.
use Rattle.flat_laws.proofs.Cited.{◌≡◌, ℕ, zero, Bool, List, [], ◌∷◌, length, Option, Some, None, refl, sym, ◌∙◌, ap, subst, inl, inr}
use Rattle.flat_laws.proofs.Cited.{eqb_tells, LockId, End, Entry, BoardView, IsTree, IsPlainBoard, Asks, changed_at, Act, Take, Free, Send}
use Rattle.flat_laws.proofs.Cited.{Shift, Settle, ActOutcome, Passed, Sent, Lined, Note, WalkTree, Ends, first_act, first_note, rest_of}
use Rattle.flat_laws.proofs.Cited.{holder, Now, current, step, now, sent_by, lined_by, IsNext, May, IsStepwise, IsComplete, InLocks, Runs}
use Rattle.flat_laws.proofs.Cited.{LinesAreLocked, CallerStands, Stands, AsksForMessages, at_same, at_other, first_is, past-stands}
use Rattle.flat_laws.proofs.Cited.{holder-told}
use Rattle.i2c_base.specs.declared.entry.Entry.TheVariants as entry
use Rattle.bus_spec.specs.Past.{without}
use Rattle.bus_spec.specs.Ruled.{IsThrough}
use Rattle.bus_laws.specs.Runs.{LeavesShut}
use Rattle.bus_laws.proofs.past.StandsFacts.{current-stands}
use Rattle.bus_laws.proofs.past.StandsEntries.{without-head}
use Rattle.flat_laws.proofs.walk.HoldsOn.{locks_behind, HoldsOn, next-holds}

-- a message and a line step leave the locks
sent_held : (b : BoardView) (n : Now) (c : ℕ) (o : Option Act) (note : Note) (reading : Bool) (bytes : List ℕ) (e : End)
    → (sent_by b n c o note reading bytes e).held ≡ n.held
sent_held b n c None note reading bytes e = refl
sent_held b n c (Some (Take l)) note reading bytes e = refl
sent_held b n c (Some (Free l)) note reading bytes e = refl
sent_held b n c (Some (Send job left)) note reading bytes e = refl
sent_held b n c (Some (Shift job)) note reading bytes e = refl
sent_held b n c (Some (Settle verdict)) note reading bytes e = refl

lined_held : (b : BoardView) (n : Now) (o : Option Act) (note : Note) (failed : Bool) → (lined_by b n o note failed).held ≡ n.held
lined_held b n None note failed = refl
lined_held b n (Some (Take l)) note failed = refl
lined_held b n (Some (Free l)) note failed = refl
lined_held b n (Some (Send job left)) note failed = refl
lined_held b n (Some (Shift job)) note failed = refl
lined_held b n (Some (Settle verdict)) note failed = refl

-- each caller's walk holds on, as many locks as it holds
abbrev AllHoldOn : (ℕ → List LockId) → (ℕ → WalkTree) → Type 0
AllHoldOn held walk = (c : ℕ) → HoldsOn (length (held c)) (walk c)

module _ (b : BoardView) (tree : IsTree b) (lines : LinesAreLocked b) (asks : Asks) (some : AsksForMessages asks) (callers : ℕ) (n : Now)
    (stands : Stands b n) (hold : AllHoldOn n.held n.walk) where
  -- one caller goes on, and the others stay
  goes_on : (d : ℕ) (w : WalkTree) (ls : List LockId) → HoldsOn (length ls) w → AllHoldOn (changed_at n.held d ls) (changed_at n.walk d w)
  goes_on d w ls h c =
      elim (eqb_tells c d) [
        | inl own ↦ subst (λ (x : ℕ). HoldsOn (length (changed_at n.held d ls x)) (changed_at n.walk d w x)) (sym own.1)
            (subst (λ (ks : List LockId). HoldsOn (length ks) (changed_at n.walk d w d)) (sym (at_same n.held d ls))
            (subst (λ (x : WalkTree). HoldsOn (length ls) x) (sym (at_same n.walk d w)) h))
        | inr other ↦ subst (λ (ks : List LockId). HoldsOn (length ks) (changed_at n.walk d w c)) (sym (at_other n.held d ls c other.1))
            (subst (λ (x : WalkTree). HoldsOn (length (n.held c)) x) (sym (at_other n.walk d w c other.1)) (hold c))
      ]

  stays_held : (d : ℕ) (w : WalkTree) → HoldsOn (length (n.held d)) w → AllHoldOn n.held (changed_at n.walk d w)
  stays_held d w h c =
      elim (eqb_tells c d) [
        | inl own ↦ subst (λ (x : ℕ). HoldsOn (length (n.held x)) (changed_at n.walk d w x)) (sym own.1)
            (subst (λ (x : WalkTree). HoldsOn (length (n.held d)) x) (sym (at_same n.walk d w)) h)
        | inr other ↦ subst (λ (x : WalkTree). HoldsOn (length (n.held c)) x) (sym (at_other n.walk d w c other.1)) (hold c)
      ]

  behind_next : (d : ℕ) (act : Act) → IsNext b asks n d act → (out : ActOutcome)
      → HoldsOn (locks_behind act (length (n.held d))) (rest_of (current b asks n d) out)
  behind_next d act next out = next-holds b n.slot (asks d (n.settled d)) (length (n.held d)) (n.walk d) act (hold d) next out

  -- who frees a lock has taken it last
  freed_last : (d : ℕ) (l : LockId) → IsNext b asks n d (Free l) → locks_behind (Free l) (length (n.held d)) ≡ length (without l (n.held d))
  freed_last d l next =
      let cur : CallerStands b (n.held d) (current b asks n d) n.slot = current-stands b tree lines asks some n d stands in
      let at = first_is (current b asks n d) (Free l) next in
      let runs : (rest : List LockId) × (n.held d ≡ l ∷ rest) × LeavesShut b l cur.view × Runs b cur.whose rest cur.view (at.1 Passed) =
      subst (λ (w : WalkTree). Runs b cur.whose (n.held d) cur.view w) at.2 cur.runs in
      ap (λ (ls : List LockId). locks_behind (Free l) (length ls)) runs.1
      ∙ ap (λ (ls : List LockId). length ls) (sym (without-head l runs.0))
      ∙ ap (λ (ls : List LockId). length (without l ls)) (sym runs.1)

  step_holds : (e : Entry) → May b callers asks n e → AllHoldOn (step b asks n e).held (step b asks n e).walk
  step_holds (entry.Take d l) may = goes_on d (rest_of (current b asks n d) Passed) (l ∷ n.held d) (behind_next d (Take l) may.2 Passed)
  step_holds (entry.Free d l) may =
      goes_on d (rest_of (current b asks n d) Passed) (without l (n.held d))
      (subst (λ (k : ℕ). HoldsOn k (rest_of (current b asks n d) Passed)) (freed_last d l may.2) (behind_next d (Free l) may.2 Passed))
  step_holds (entry.Message d bus purpose part parts addr reading bytes heard e) may =
      subst (λ (held : ℕ → List LockId). AllHoldOn held (changed_at n.walk d (rest_of (current b asks n d) (Sent e bytes))))
      (sym (sent_held b n d (first_act (current b asks n d)) (first_note (current b asks n d)) reading bytes e))
      (stays_held d (rest_of (current b asks n d) (Sent e bytes)) (behind_next d (Send may.2.0 may.2.1) may.2.2 (Sent e bytes)))
  step_holds (entry.Line d mux level failed) may =
      subst (λ (held : ℕ → List LockId). AllHoldOn held (changed_at n.walk d (rest_of (current b asks n d) (Lined failed))))
      (sym (lined_held b n (first_act (current b asks n d)) (first_note (current b asks n d)) failed))
      (stays_held d (rest_of (current b asks n d) (Lined failed)) (behind_next d (Shift may.2.0) may.2.1 (Lined failed)))
  step_holds (entry.Settle d r cut) may =
      stays_held d (rest_of (current b asks n d) Passed) (behind_next d (Settle may.2) may.3 Passed)

module _ (b : BoardView) (tree : IsTree b) (plain : IsPlainBoard b) (lines : LinesAreLocked b) (asks : Asks) (some : AsksForMessages asks)
    (callers : ℕ) where
  -- THE INDUCTION
  past_holds : (past : List Entry) → IsStepwise b callers asks past → AllHoldOn (now b asks past).held (now b asks past).walk
  past_holds [] steps = λ c. refl
  past_holds (e ∷ past) steps =
      step_holds b tree lines asks some callers (now b asks past) (past-stands b tree plain lines asks some callers past steps.1)
      (past_holds past steps.1) e steps.0

  -- who holds nothing has no walk under way
  pub walk-ended : (past : List Entry) → IsStepwise b callers asks past → (c : ℕ) → (now b asks past).held c ≡ []
      → (now b asks past).walk c ≡ Ends
  walk-ended past steps c none =
      let h : HoldsOn zero ((now b asks past).walk c) =
      subst (λ (ls : List LockId). HoldsOn (length ls) ((now b asks past).walk c)) none (past_holds past steps c) in
      h

  -- where no lock is held, nobody holds one
  holds_none : (past : List Entry) → IsStepwise b callers asks past → ((l : LockId) → holder past l ≡ None) → (c : ℕ)
      → (now b asks past).held c ≡ []
  holds_none past steps free c = by ((now b asks past).held c) refl
    where
      by : (ls : List LockId) → (now b asks past).held c ≡ ls → (now b asks past).held c ≡ []
      by [] e = e
      by (l ∷ ls) e =
          let has : (now b asks past).holder l ≡ Some c = (past-stands b tree plain lines asks some callers past steps).holds c l
          (subst (λ (ks : List LockId). InLocks l ks) (sym e) (inl refl)) in
          absurd (let f : None ≡ Some c = sym (free l) ∙ sym (holder-told b asks past l) ∙ has in cc)

  pub complete-through : (past : List Entry) → IsStepwise b callers asks past → IsThrough callers asks past → IsComplete b callers asks past
  complete-through past steps through =
      record {
        asked = through.asked;
        walked = λ c. walk-ended past steps c (holds_none past steps through.free c);
        free = through.free;
      }

-- and the other way
pub through-complete : (b : BoardView) (callers : ℕ) (asks : Asks) (past : List Entry) → IsComplete b callers asks past
    → IsThrough callers asks past
through-complete b callers asks past complete = record { asked = complete.asked; free = complete.free }
