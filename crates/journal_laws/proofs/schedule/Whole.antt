-- A journal in which no settle is due is its steps, one after the other, and none is due between them. The induction goes
-- over the entries.
use Rattle.journal_laws.proofs.Cited.{◌≡◌, ℕ, Bool, true, false, cond, List, [], ◌∷◌, ◌++◌, Option, Some, None, refl, sym, ◌∙◌, ap, subst}
use Rattle.journal_laws.proofs.Cited.{inl, inr, append_assoc, Errno, Entry, BoardView, TransferView, IsTree, IsPlainBoard, refusal, Asks}
use Rattle.journal_laws.proofs.Cited.{Settle, walk_by, seen, is_over, first_act, caller_of, Now, begun, now, is_due, May, IsNext}
use Rattle.journal_laws.proofs.Cited.{IsStepwise, Turn, turns, turn_of, past_after, is_settle, LinesAreLocked, AsksForMessages, NoSettle}
use Rattle.journal_laws.proofs.Cited.{ahead, IsTurn, Comes, after_all, walk-starts, IsDueBehind, past-due, due-made, starts_seen, no_settle}
use Rattle.std.specs.Prelude.{reverse}
use mathlib.Core.List.{reverse-cons}
use Rattle.i2c_base.specs.declared.entry.Entry.TheVariants as entry
use Rattle.bus_laws.proofs.schedule.Turns.{turns-more}

-- these steps come, and no settle is due after any of them
abbrev pub ComeWhole : BoardView → ℕ → Asks → List Entry → List Turn → Type 0
ComeWhole b callers asks past [] = Unit {0}
ComeWhole b callers asks past (t ∷ ts) = IsTurn b callers asks past t × ((now b asks (past_after past t)).due ≡ None)
    × ComeWhole b callers asks (past_after past t) ts

pub all-come : (b : BoardView) (callers : ℕ) (asks : Asks) (past : List Entry) (ts : List Turn) → ComeWhole b callers asks past ts
    → Comes b callers asks past ts
all-come b callers asks past [] whole = tt
all-come b callers asks past (t ∷ ts) whole = (whole.0, all-come b callers asks (past_after past t) ts whole.2)

after_more : (past : List Entry) (ts : List Turn) (t : Turn) → after_all past (ts ++ t ∷ []) ≡ past_after (after_all past ts) t
after_more past [] t = refl
after_more past (u ∷ ts) t = after_more (past_after past u) ts t

whole_more : (b : BoardView) (callers : ℕ) (asks : Asks) (past : List Entry) (ts : List Turn) (t : Turn) → ComeWhole b callers asks past ts
    → IsTurn b callers asks (after_all past ts) t
    → (now b asks (past_after (after_all past ts) t)).due ≡ None → ComeWhole b callers asks past (ts ++ t ∷ [])
whole_more b callers asks past [] t whole is none = (is, none, tt)
whole_more b callers asks past (u ∷ ts) t whole is none =
    (whole.0, whole.1, whole_more b callers asks (past_after past u) ts t whole.2 is none)

module _ (b : BoardView) (tree : IsTree b) (plain : IsPlainBoard b) (lines : LinesAreLocked b) (asks : Asks) (some : AsksForMessages asks)
    (callers : ℕ) where
  -- a settle that stands alone is all that is ahead of its caller
  lone_due : (past : List Entry) → IsStepwise b callers asks past → (now b asks past).due ≡ None → (c : ℕ) (verdict : Option Errno)
      → IsNext b asks (now b asks past) c (Settle verdict)
      → is_due (first_act (ahead b asks (now b asks past) c)) ≡ true
  lone_due past steps none c verdict next = by (is_over (n.walk c)) refl
    where
      n : Now
      n = now b asks past

      quiet : NoSettle (n.walk c)
      quiet = elim (past-due b asks some callers past steps c)
          [ inl due ↦ absurd (let f : None ≡ Some c = sym none ∙ due in cc) | inr h ↦ h ]

      refused : (t : TransferView) (r : Option Errno) → refusal b t ≡ r → first_act (seen n.slot (walk_by b t r)) ≡ Some (Settle verdict)
          → is_due (first_act (walk_by b t r)) ≡ true
      refused t (Some e) is first = refl
      refused t None is first =
          absurd (no_settle (seen n.slot (walk_by b t None)) verdict
          (starts_seen n.slot (walk_by b t None) (subst (λ (r : Option Errno). NoSettle (walk_by b t r)) is (walk-starts b t is))) first)

      begins_so : (o : Option TransferView) → first_act (seen n.slot (begun b o)) ≡ Some (Settle verdict)
          → is_due (first_act (begun b o)) ≡ true
      begins_so None first = absurd (let f : None ≡ Some (Settle verdict) = first in cc)
      begins_so (Some t) first = refused t (refusal b t) refl first

      by : (x : Bool) → is_over (n.walk c) ≡ x
          → is_due (first_act (cond (is_over (n.walk c)) (begun b (asks c (n.settled c))) (n.walk c))) ≡ true
      by true over =
          ap (λ (x : Bool). is_due (first_act (cond x (begun b (asks c (n.settled c))) (n.walk c)))) over
          ∙ begins_so (asks c (n.settled c))
          (sym (ap (λ (x : Bool). first_act (seen n.slot (cond x (begun b (asks c (n.settled c))) (n.walk c)))) over) ∙ next)
      by false over =
          absurd (no_settle (seen n.slot (n.walk c)) verdict (starts_seen n.slot (n.walk c) quiet)
          (sym (ap (λ (x : Bool). first_act (seen n.slot (cond x (begun b (asks c (n.settled c))) (n.walk c)))) over) ∙ next))

  pub alone_due : (past : List Entry) → IsStepwise b callers asks past → (now b asks past).due ≡ None → (e : Entry)
      → May b callers asks (now b asks past) e → is_settle e ≡ true
      → is_due (first_act (ahead b asks (now b asks past) (caller_of e))) ≡ true
  alone_due past steps none (entry.Settle c r cut) may is = lone_due past steps none c may.2 may.3
  alone_due past steps none (entry.Take c l) may is = absurd (let f : false ≡ true = is in cc)
  alone_due past steps none (entry.Free c l) may is = absurd (let f : false ≡ true = is in cc)
  alone_due past steps none (entry.Message c bus why part parts addr reading bytes heard e) may is = absurd (let f : false ≡ true = is in
      cc)
  alone_due past steps none (entry.Line c mux level failed) may is = absurd (let f : false ≡ true = is in cc)

  -- where a settle is due it comes
  due_settles : (n : Now) (c : ℕ) → n.due ≡ Some c → (e : Entry) → May b callers asks n e → (caller_of e ≡ c) × (is_settle e ≡ true)
  due_settles n c due (entry.Settle d r cut) may = (
    elim may.1 [
      | inl none ↦ absurd (let f : None ≡ Some c = sym none ∙ due in cc)
      | inr own ↦ (let f : Some d ≡ Some c = sym own ∙ due in
          cc)
    ],
    refl,
  )
  due_settles n c due (entry.Take d l) may = absurd (let f : None ≡ Some c = sym may.1 ∙ due in cc)
  due_settles n c due (entry.Free d l) may = absurd (let f : None ≡ Some c = sym may.1 ∙ due in cc)
  due_settles n c due (entry.Message d bus why part parts addr reading bytes heard e) may = absurd (let f : None ≡ Some c = sym may.1
      ∙ due in cc)
  due_settles n c due (entry.Line d mux level failed) may = absurd (let f : None ≡ Some c = sym may.1 ∙ due in cc)

  -- the steps of a journal, and the journal that they make
  pub record IsItsTurns (past : List Entry) : Type 0 where
    pub come : ComeWhole b callers asks [] (turns (reverse past))
    pub all : after_all [] (turns (reverse past)) ≡ past

  abbrev IsTurnsIf : List Entry → Type 0
  IsTurnsIf past = IsStepwise b callers asks past → (now b asks past).due ≡ None → IsItsTurns past

  -- one step more
  more : (past : List Entry) → IsStepwise b callers asks past → (now b asks past).due ≡ None → IsItsTurns past → (t : Turn)
      → IsTurn b callers asks past t
      → (now b asks (past_after past t)).due ≡ None → (new : List Entry) → reverse new ≡ reverse past ++ t.entries → past_after past t ≡ new
      → IsItsTurns new
  more past steps none was t is none_after new back made =
      let all : turns (reverse new) ≡ turns (reverse past) ++ t ∷ [] = ap turns back
      ∙ turns-more b tree plain lines asks some callers past steps none t is in
      record {
        come = subst (λ (ts : List Turn). ComeWhole b callers asks [] ts) (sym all)
            (whole_more b callers asks [] (turns (reverse past)) t was.come
            (subst (λ (p : List Entry). IsTurn b callers asks p t) (sym was.all) is)
            (ap (λ (p : List Entry). (now b asks (past_after p t)).due) was.all ∙ none_after));
        all = ap (after_all []) all ∙ after_more [] (turns (reverse past)) t ∙ ap (λ (p : List Entry). past_after p t) was.all ∙ made;
      }

  -- THE INDUCTION: of a past, and of the one without its last entry
  both : (past : List Entry) → IsTurnsIf past × ((last : Entry) (before : List Entry) → past ≡ last ∷ before → IsTurnsIf before)
  both [] = (λ steps none. record { come = tt; all = refl }, λ last before is. absurd (let f : [] ≡ last ∷ before = is in cc))
  both (e ∷ past) =
      let was = both past in (
        λ steps none. by steps none was ((now b asks past).due) refl,
        λ last before is. (let f : e ∷ past ≡ last ∷ before = is in let g : past ≡ before = cc in
            subst (λ (p : List Entry). IsTurnsIf p) g was.0),
      )
    where
      by : IsStepwise b callers asks (e ∷ past) → (now b asks (e ∷ past)).due ≡ None
          → IsTurnsIf past × ((last : Entry) (before : List Entry) → past ≡ last ∷ before → IsTurnsIf before)
          → (o : Option ℕ) → (now b asks past).due ≡ o → IsItsTurns (e ∷ past)
      by steps none was None free =
          more past steps.1 free (was.0 steps.1 free) (turn_of e)
          (inl (record { entry = e; entries = refl; own = refl; may = steps.0; alone = alone_due past steps.1 free e steps.0 }))
          none (e ∷ past) (reverse-cons e past) refl
      by steps none was (Some c) due =
          let made : IsDueBehind b callers asks past c = due-made b asks some callers past c steps.1 due in
          let settle = due_settles (now b asks past) c due e steps.0 in
          let before_steps : May b callers asks (now b asks made.before) made.last
          × IsStepwise b callers asks made.before = subst (λ (p : List Entry). IsStepwise b callers asks p) made.past_is steps.1 in
          let t : Turn = record { caller = c; entries = made.last ∷ e ∷ [] } in
          more made.before before_steps.1 made.none_before (was.1 made.last made.before made.past_is before_steps.1 made.none_before) t
          (inr (record {
            entry = made.last;
            settle = e;
            entries = refl;
            own = made.own;
            own_settle = settle.0;
            steps = made.stepping;
            settles = settle.1;
            may = before_steps.0;
            may_settle = subst (λ (p : List Entry). May b callers asks (now b asks p) e) made.past_is steps.0;
          }))
          (ap (λ (p : List Entry). (now b asks (e ∷ p)).due) (sym made.past_is) ∙ none) (e ∷ past)
          (ap (λ (p : List Entry). reverse (e ∷ p)) made.past_is ∙ reverse-cons e (made.last ∷ made.before)
          ∙ ap (λ (es : List Entry). es ++ e ∷ []) (reverse-cons made.last made.before)
          ∙ append_assoc (reverse made.before) (made.last ∷ []) (e ∷ []))
          (ap (λ (p : List Entry). e ∷ p) (sym made.past_is))

  pub whole-comes : (past : List Entry) → IsStepwise b callers asks past → (now b asks past).due ≡ None → IsItsTurns past
  whole-comes past = (both past).0
