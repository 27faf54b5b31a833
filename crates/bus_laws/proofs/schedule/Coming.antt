-- Who is stuck is not ready, whatever comes later. The induction goes over the steps that come.
use Rattle.bus_laws.proofs.Cited.{◌≡◌, ℕ, Bool, true, false, not, cond, List, [], ◌∷◌, ◌++◌, Option, Some, None, refl, sym, ◌∙◌, ap, subst}
use Rattle.bus_laws.proofs.Cited.{inl, inr, reverse, MatchBool, ◌==◌, option_map_or, eqb_tells, LockId, Entry, BoardView, IsTree}
use Rattle.bus_laws.proofs.Cited.{IsPlainBoard, Asks, Take, WalkTree, first_act, caller_of, holder, current, now, May, IsNext, IsStepwise}
use Rattle.bus_laws.proofs.Cited.{Turn, is_ready, past_after, FollowsWords, LinesAreLocked, AsksForMessages, IsStuck, IsTurn, Comes}
use Rattle.std.specs.List.{find}
use Rattle.i2c_base.specs.declared.entry.Entry.TheVariants as entry
use Rattle.bus_spec.specs.Schedule.{waits_for, is_taken}
use Rattle.bus_laws.proofs.past.Laws.{past-stands}
use Rattle.bus_laws.proofs.past.Known.{takes, never}
use Rattle.bus_laws.proofs.past.Stays.{next-stays}

-- whether the next step of a caller, if it has one, waits for no lock
abbrev pub ready_by : List Entry → Option Turn → Bool
ready_by past o = option_map_or (λ t. not (waits_for past t.entries)) o false

module _ (b : BoardView) (tree : IsTree b) (plain : IsPlainBoard b) (lines : LinesAreLocked b) (asks : Asks) (some : AsksForMessages asks)
    (callers : ℕ) (c : ℕ) where
  -- a step of another leaves what a caller does next
  pub turn-leaves : (past : List Entry) → IsStepwise b callers asks past → (t : Turn) → IsTurn b callers asks past t → (c ≡ t.caller → ⊥)
      → IsStepwise b callers asks (past_after past t)
      × (current b asks (now b asks (past_after past t)) c ≡ current b asks (now b asks past) c)
  turn-leaves past steps t is other =
      elim is [
        | inl one ↦ subst (λ (es : List Entry). IsStepwise b callers asks (reverse es ++ past)
            × (current b asks (now b asks (reverse es ++ past)) c ≡ current b asks (now b asks past) c)) (sym one.entries)
            ((one.may, steps), stays past steps one.entry one.may (λ e. other (e ∙ one.own)))
        | inr two ↦ subst (λ (es : List Entry). IsStepwise b callers asks (reverse es ++ past)
            × (current b asks (now b asks (reverse es ++ past)) c ≡ current b asks (now b asks past) c)) (sym two.entries) (
              (two.may_settle, (two.may, steps)),
              stays (two.entry ∷ past) (two.may, steps) two.settle two.may_settle (λ e. other (e ∙ two.own_settle))
                  ∙ stays past steps two.entry two.may (λ e. other (e ∙ two.own)),
            )
      ]
    where
      stays : (p : List Entry) → IsStepwise b callers asks p → (e : Entry) → May b callers asks (now b asks p) e → (c ≡ caller_of e → ⊥)
          → current b asks (now b asks (e ∷ p)) c ≡ current b asks (now b asks p) c
      stays p s e may ne = next-stays b tree lines asks some (now b asks p)
          (past-stands b tree plain lines asks some callers p s) callers e may c ne

  -- the first entry of a step
  pub first_of : (past : List Entry) (t : Turn) → IsTurn b callers asks past t
      → (e : Entry) × (es : List Entry) × (t.entries ≡ e ∷ es) × (caller_of e ≡ t.caller) × May b callers asks (now b asks past) e
  first_of past t is = elim is [
    | inl one ↦ (one.entry, [], one.entries, one.own, one.may)
    | inr two ↦
        (two.entry, two.settle ∷ [], two.entries, two.own, two.may)
  ]

  -- THE INDUCTION: the locks are looked at in the past at the beginning
  waits : (start : List Entry) (l : LockId) (h : ℕ) → holder start l ≡ Some h → (past : List Entry) → IsStepwise b callers asks past
      → IsNext b asks (now b asks past) c (Take l)
      → (later : List Turn) → Comes b callers asks past later → ready_by start (find (λ t. t.caller == c) later) ≡ false
  waits start l h has past steps next [] comes = refl
  waits start l h has past steps next (t ∷ ts) comes =
      elim (eqb_tells t.caller c) [
        | inl e ↦ (let f = first_of past t comes.0 in
            let own : caller_of f.0 ≡ c = f.3 ∙ e.1 in
            let act = takes b callers asks (now b asks past) f.0 f.4 l
            (subst (λ (i : ℕ). IsNext b asks (now b asks past) i (Take l)) (sym own) next) in
            ap (λ (x : Bool). ready_by start (cond x (Some t) (find (λ u. u.caller == c) ts))) e.0
            ∙ ap (λ (es : List Entry). not (waits_for start es)) (f.2 ∙ ap (λ (x : Entry). x ∷ f.1) act.1)
            ∙ ap (λ (o : Option ℕ). not (is_taken o)) has)
        | inr e ↦ (let k = turn-leaves past steps t comes.0 (λ same. e.1 (sym same)) in
            ap (λ (x : Bool). ready_by start (cond x (Some t) (find (λ u. u.caller == c) ts))) e.0
            ∙ waits start l h has (past_after past t) k.0 (ap (λ (w : WalkTree). first_act w) k.1 ∙ next) ts comes.1)
      ]

  over : (start past : List Entry) → IsStepwise b callers asks past → first_act (current b asks (now b asks past) c) ≡ None
      → (later : List Turn) → Comes b callers asks past later → ready_by start (find (λ t. t.caller == c) later) ≡ false
  over start past steps none [] comes = refl
  over start past steps none (t ∷ ts) comes =
      elim (eqb_tells t.caller c) [
        | inl e ↦ (let f = first_of past t comes.0 in
            let own : caller_of f.0 ≡ c = f.3 ∙ e.1 in
            absurd (never b callers asks (now b asks past) f.0 f.4 (ap (λ (i : ℕ). first_act (current b asks (now b asks past) i)) own
            ∙ none)))
        | inr e ↦ (let k = turn-leaves past steps t comes.0 (λ same. e.1 (sym same)) in
            ap (λ (x : Bool). ready_by start (cond x (Some t) (find (λ u. u.caller == c) ts))) e.0
            ∙ over start (past_after past t) k.0 (ap (λ (w : WalkTree). first_act w) k.1 ∙ none) ts comes.1)
      ]

  pub stuck-waits : (past : List Entry) → IsStepwise b callers asks past → IsStuck b asks past c → (later : List Turn)
      → Comes b callers asks past later → is_ready past later c ≡ false
  stuck-waits past steps stuck later comes =
      elim stuck [
        | inl w ↦ waits past w.0 w.1 w.3 past steps w.2 later comes
        | inr none ↦ over past past steps none later comes
      ]

  -- who makes the next step is ready
  pub turn-ready : (past : List Entry) (t : Turn) (later : List Turn) → t.caller ≡ c → IsTurn b callers asks past t
      → ((l : LockId) (o : Option ℕ) → holder past l ≡ o → (now b asks past).holder l ≡ o) → is_ready past (t ∷ later) c ≡ true
  turn-ready past t later own is told =
      elim (eqb_tells t.caller c) [
        | inl e ↦ (let f = first_of past t is in
            ap (λ (x : Bool). ready_by past (cond x (Some t) (find (λ u. u.caller == c) later))) e.0
            ∙ ap (λ (es : List Entry). not (waits_for past es)) f.2 ∙ free f.0 f.1 f.4)
        | inr e ↦ absurd (e.1 own)
      ]
    where
      free : (e : Entry) (es : List Entry) → May b callers asks (now b asks past) e → not (waits_for past (e ∷ es)) ≡ true
      free (entry.Take d l) es may = ap (λ (o : Option ℕ). not (is_taken o)) (by (holder past l) refl)
        where
          by : (o : Option ℕ) → holder past l ≡ o → holder past l ≡ None
          by None e = e
          by (Some h) e = absurd (let f : Some h ≡ None = sym (told l (Some h) e) ∙ may.3 in cc)
      free (entry.Free d l) es may = refl
      free (entry.Message d bus why part parts addr reading bytes heard e) es may = refl
      free (entry.Line d mux level failed) es may = refl
      free (entry.Settle d r cut) es may = refl

-- ONE WORD of a schedule: a step of its caller is made ..
pub word-made : (past : List Entry) (w : ℕ) (ws : List ℕ) (t : Turn) (later : List Turn) → t.caller ≡ w → is_ready past (t ∷ later) w ≡ true
    → FollowsWords ws (past_after past t) later → FollowsWords (w ∷ ws) past (t ∷ later)
word-made past w ws t later own ready rest =
    let P : Bool → Type 0 = λ x. MatchBool x ((t.caller ≡ w) × FollowsWords ws (past_after past t) later)
    (FollowsWords ws past (t ∷ later)) in
    subst P (sym ready) (own, rest)

-- .. or it is passed over
pub word-passed : (past : List Entry) (w : ℕ) (ws : List ℕ) (later : List Turn) → is_ready past later w ≡ false → FollowsWords ws past later
    → FollowsWords (w ∷ ws) past later
word-passed past w ws [] ready rest = rest
word-passed past w ws (t ∷ ts) ready rest =
    let P : Bool → Type 0 = λ x. MatchBool x ((t.caller ≡ w) × FollowsWords ws (past_after past t) ts) (FollowsWords ws past (t ∷ ts)) in
    subst P (sym ready) rest
