-- What stands where a caller's walk has ended, and where all have. The induction goes over the entries.
use Rattle.flat_laws.proofs.Cited.{◌≡◌, ℕ, ◌<◌, List, [], ◌∷◌, Option, Some, None, refl, sym, ◌∙◌, ap, subst, inl, inr, arith, LockId}
use Rattle.flat_laws.proofs.Cited.{Entry, Reply, BoardView, IsTree, IsPlainBoard, Asks, Call, Send, Passed, Sent, Lined, WalkTree, Ends}
use Rattle.flat_laws.proofs.Cited.{first_act, rest_of, holder, Now, current, step, now, May, IsStepwise, IsComplete, InLocks, Runs}
use Rattle.flat_laws.proofs.Cited.{LinesAreLocked, CallerStands, Stands, AsksForMessages, at_other, past-stands, holder-told, settled-told}
use Rattle.flat_laws.proofs.Cited.{past-inside}
use Rattle.std.proofs.Common.{◌≤◌}
use Rattle.std.proofs.lemmas.Bool.Decides.{leb_tells}
use Rattle.i2c_base.specs.declared.entry.Entry.TheVariants as entry
use Rattle.flat_laws.specs.Ends.{IsDone}
use Rattle.bus_laws.proofs.past.Whole.{IsInside}

-- an entry is of one of the callers, so the walks of nobody else go on
others_stay : (b : BoardView) (callers : ℕ) (asks : Asks) (n : Now) (e : Entry) → May b callers asks n e → (c : ℕ) → (c < callers → ⊥)
    → (step b asks n e).walk c ≡ n.walk c
others_stay b callers asks n (entry.Take d l) may c stranger =
    at_other n.walk d (rest_of (current b asks n d) Passed) c (λ same. stranger (subst (λ (i : ℕ). i < callers) (sym same) may.0))
others_stay b callers asks n (entry.Free d l) may c stranger =
    at_other n.walk d (rest_of (current b asks n d) Passed) c (λ same. stranger (subst (λ (i : ℕ). i < callers) (sym same) may.0))
others_stay b callers asks n (entry.Message d bus purpose part parts addr reading bytes heard e) may c stranger =
    at_other n.walk d (rest_of (current b asks n d) (Sent e bytes)) c (λ same. stranger (subst (λ (i : ℕ). i < callers) (sym same) may.0))
others_stay b callers asks n (entry.Line d mux level failed) may c stranger =
    at_other n.walk d (rest_of (current b asks n d) (Lined failed)) c (λ same. stranger (subst (λ (i : ℕ). i < callers) (sym same) may.0))
others_stay b callers asks n (entry.Settle d r cut) may c stranger =
    at_other n.walk d (rest_of (current b asks n d) Passed) c (λ same. stranger (subst (λ (i : ℕ). i < callers) (sym same) may.0))

-- THE INDUCTION
pub strangers-end : (b : BoardView) (callers : ℕ) (asks : Asks) (past : List Entry) → IsStepwise b callers asks past → (c : ℕ)
    → (c < callers → ⊥) → (now b asks past).walk c ≡ Ends
strangers-end b callers asks [] steps c stranger = refl
strangers-end b callers asks (e ∷ past) steps c stranger =
    others_stay b callers asks (now b asks past) e steps.0 c stranger ∙ strangers-end b callers asks past steps.1 c stranger

module _ (b : BoardView) (tree : IsTree b) (plain : IsPlainBoard b) (lines : LinesAreLocked b) (asks : Asks) (some : AsksForMessages asks)
    (callers : ℕ)
    (past : List Entry) (steps : IsStepwise b callers asks past) where
  abbrev n : Now
  n = now b asks past

  stands : Stands b n
  stands = past-stands b tree plain lines asks some callers past steps

  -- a walk that has ended holds no lock
  pub holds-nothing : (c : ℕ) → n.walk c ≡ Ends → n.held c ≡ []
  holds-nothing c ends =
      let cs : CallerStands b (n.held c) (n.walk c) n.slot = stands.callers c in
      let runs : Runs b cs.whose (n.held c) cs.view Ends = subst (λ (w : WalkTree). Runs b cs.whose (n.held c) cs.view w) ends cs.runs in
      runs

  -- so whoever has a lock has a walk
  no_lock : (c : ℕ) (l : LockId) → n.walk c ≡ Ends → n.holder l ≡ Some c → ⊥
  no_lock c l ends has = subst (λ (ls : List LockId). InLocks l ls) (holds-nothing c ends) (stands.has c l has)

  pub holder-known : (l : LockId) (c : ℕ) → n.holder l ≡ Some c → c < callers
  holder-known l c has =
      elim (leb_tells callers c) [
        | inl h ↦ absurd (no_lock c l (strangers-end b callers asks past steps c (λ lt. let le : callers ≤ c = h.1 in
            omega (arith, le, lt))) has)
        | inr h ↦ h.1
      ]

  -- ALL HAVE FINISHED
  module _ (done : (c : ℕ) → c < callers → IsDone asks n c) where
    all_end : (c : ℕ) → n.walk c ≡ Ends
    all_end c =
        elim (leb_tells callers c) [
          | inl h ↦ strangers-end b callers asks past steps c (λ lt. let le : callers ≤ c = h.1 in omega (arith, le, lt))
          | inr h ↦ (done c h.1).0
        ]

    all_free : (l : LockId) (o : Option ℕ) → holder past l ≡ o → holder past l ≡ None
    all_free l None e = e
    all_free l (Some c) e = absurd (no_lock c l (all_end c) (holder-told b asks past l ∙ e))

    pub complete-then : IsComplete b callers asks past
    complete-then =
        record {
          asked = λ c known. ap (λ (rs : List Reply). asks c rs) (sym (settled-told b asks past c)) ∙ (done c known).1;
          walked = all_end;
          free = λ l. all_free l (holder past l) refl;
        }

    nobody_inside : (r : ℕ) (o : Option ℕ) → n.inside r ≡ o → n.inside r ≡ None
    nobody_inside r None e = e
    nobody_inside r (Some c) e =
        let i : IsInside b r (n.walk c) (n.held c) = past-inside b tree plain lines asks some callers past steps r c e in
        absurd (let f : None ≡ Some (Send (Call i.bus i.messages) i.left) = ap first_act (sym (all_end c)) ∙ i.sends in cc)

    pub outside-then : (r : ℕ) → n.inside r ≡ None
    outside-then r = nobody_inside r (n.inside r) refl
