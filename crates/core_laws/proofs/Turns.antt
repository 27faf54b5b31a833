-- A message with its settle, and what it adds to the schedule's steps. No induction but over lists.
use Rattle.core_laws.proofs.Cited.{◌≡◌, ℕ, ◌<◌, true, false, List, [], ◌∷◌, set, Some, refl, sym, ◌∙◌, ap, subst, inl, inr, slice_get}
use Rattle.core_laws.proofs.Cited.{eqb_tells, Entry, BoardView, Asks, caller_of, now, is_due, first_act, IsStepwise, ahead, Spot}
use Rattle.core_laws.proofs.Cited.{AreNumbered, AreRooted, RootPort, set_elsewhere}
use Rattle.bus_spec.specs.Legal.{is_stepping}
use Rattle.bus_spec.specs.Schedule.{is_settle}
use Rattle.bus_laws.specs.Coming.{IsTurn}
use Rattle.core_laws.proofs.Steps.{set_here}

-- a place of the new list is one of the old list, of the same number
spot-was : (spots : List Spot) (place : ℕ) (x new : Spot) → slice_get spots place ≡ Some x → new.number ≡ x.number
    → (i : ℕ) (y : Spot) → slice_get (set spots place new) i ≡ Some y → (z : Spot) × (slice_get spots i ≡ Some z) × (z.number ≡ y.number)
spot-was spots place x new here same i y at =
    elim (eqb_tells i place) [
      | inl h ↦ (
        x,
        ap (slice_get spots) h.1 ∙ here,
        sym same
            ∙ ap (λ (s : Spot). s.number) (set_here spots place new y (subst (λ (k : ℕ). slice_get (set spots place new) k ≡ Some y) h.1
            at)),
      )
      | inr h ↦ (y, sym (set_elsewhere spots place i new h.1) ∙ at, refl)
    ]

pub numbered-kept : (callers : ℕ) (spots : List Spot) → AreNumbered callers spots → (place : ℕ) (x new : Spot)
    → slice_get spots place ≡ Some x → new.number ≡ x.number → AreNumbered callers (set spots place new)
numbered-kept callers spots are place x new here same =
    record {
      below = λ i y at. (let was = spot-was spots place x new here same i y at in
          subst (λ (k : ℕ). k < callers) was.2 (are.below i was.0 was.1));
      once = λ i k y z at also e. (let was = spot-was spots place x new here same i y at in
          let had = spot-was spots place x new here same k z also in
          are.once i k was.0 had.0 was.1 had.1 (was.2 ∙ e ∙ sym had.2));
    }

socket-was : (sockets : List RootPort) (place : ℕ) (x new : RootPort) → slice_get sockets place ≡ Some x → new.root ≡ x.root
    → (i : ℕ) (y : RootPort) → slice_get (set sockets place new) i ≡ Some y
    → (z : RootPort) × (slice_get sockets i ≡ Some z) × (z.root ≡ y.root)
socket-was sockets place x new here same i y at =
    elim (eqb_tells i place) [
      | inl h ↦ (
        x,
        ap (slice_get sockets) h.1 ∙ here,
        sym same
            ∙ ap (λ (s : RootPort). s.root)
            (set_here sockets place new y (subst (λ (k : ℕ). slice_get (set sockets place new) k ≡ Some y) h.1 at)),
      )
      | inr h ↦ (y, sym (set_elsewhere sockets place i new h.1) ∙ at, refl)
    ]

pub rooted-kept : (sockets : List RootPort) → AreRooted sockets → (place : ℕ) (x new : RootPort) → slice_get sockets place ≡ Some x
    → new.root ≡ x.root → AreRooted (set sockets place new)
rooted-kept sockets are place x new here same i k y z at also e =
    let was = socket-was sockets place x new here same i y at in
    let had = socket-was sockets place x new here same k z also in
    are i k was.0 had.0 was.1 had.1 (was.2 ∙ e ∙ sym had.2)

-- WHAT A STEP ADDS to the schedule
pub turn-one : (b : BoardView) (callers : ℕ) (asks : Asks) (past : List Entry) (e : Entry) → IsStepwise b callers asks (e ∷ past)
    → is_settle e ≡ false
    → IsTurn b callers asks past (record { caller = caller_of e; entries = e ∷ [] })
turn-one b callers asks past e steps none =
    inl (record { entry = e; entries = refl; own = refl; may = steps.0; alone = λ is. absurd (let f : false ≡ true = sym none ∙ is in cc) })

pub turn-lone : (b : BoardView) (callers : ℕ) (asks : Asks) (past : List Entry) (e : Entry) → IsStepwise b callers asks (e ∷ past)
    → is_due (first_act (ahead b asks (now b asks past) (caller_of e))) ≡ true
    → IsTurn b callers asks past (record { caller = caller_of e; entries = e ∷ [] })
turn-lone b callers asks past e steps lone = inl (record { entry = e; entries = refl; own = refl; may = steps.0; alone = λ is. lone })

pub turn-two : (b : BoardView) (callers : ℕ) (asks : Asks) (past : List Entry) (e s : Entry) → IsStepwise b callers asks (s ∷ e ∷ past)
    → caller_of s ≡ caller_of e → is_stepping e ≡ true → is_settle s ≡ true
    → IsTurn b callers asks past (record { caller = caller_of e; entries = e ∷ s ∷ [] })
turn-two b callers asks past e s steps own step settle =
    inr (record {
      entry = e;
      settle = s;
      entries = refl;
      own = refl;
      own_settle = own;
      steps = step;
      settles = settle;
      may = (let more : IsStepwise b callers asks (e ∷ past) = steps.1 in more.0);
      may_settle = steps.0;
    })
