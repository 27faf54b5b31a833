-- Where a caller steps otherwise than it is told, the step that is told is the first that isn't legal. The inductions go over lists.
use Rattle.std.proofs.Common.{◌≡◌, ℕ, zero, suc, ◌+◌, ◌-◌, ◌<◌, ◌≤◌, Bool, true, false, cond, ◌&&◌, List, [], ◌∷◌, ◌++◌, length}
use Rattle.std.proofs.Common.{length-append, append_assoc, reverse, take, drop, get_or, Some, None, refl, sym, ◌∙◌, ap, subst, inl, inr}
use Rattle.std.proofs.Common.{arith}
use Rattle.std.specs.Prelude.{slice_get, ◌==◌}
use mathlib.Core.List.{reverse-cons}
use Rattle.std.proofs.lemmas.Bool.{cases_lt, cases_Bool, and_parts, eqb-true, eq-eqb, and_from}
use Rattle.std.proofs.lemmas.List.{reverse-append, reverse-reverse, take-append-le, take_all}
use Rattle.std.proofs.lemmas.Option.{slice_get-get_or}
use Rattle.i2c_base.specs.declared.entry.Entry.{Entry}
use Rattle.i2c_base.specs.declared.entry.Entry.TheVariants as entry
use Rattle.i2c_base.specs.Board.{BoardView}
use Rattle.i2c_spec.specs.History.{Asks}
use Rattle.i2c_spec.specs.Plain.{IsPlainBoard}
use Rattle.i2c_spec.specs.TreeFacts.{IsTree}
use Rattle.bus_spec.specs.Legal.{IsLegal, is_stepping}
use Rattle.bus_spec.specs.Past.{now}
use Rattle.bus_spec.specs.Readings.{caller_of, Everywhere}
use Rattle.i2c_base.specs.declared.reply.Reply.{Reply}
use Rattle.bus_spec.specs.Schedule.{Turn, is_settle}
use Rattle.bus_spec.specs.Stepwise.{May, IsStepwise}
use Rattle.bus_laws.proofs.past.Known.{entry_known, callers-known}
use Rattle.bus_laws.specs.Coming.{IsTurn}
use Rattle.bus_laws.specs.Lines.{LinesAreLocked}
use Rattle.bus_laws.specs.Reach.{AsksForMessages, AsksWithinLimits}
use Rattle.flat_laws.proofs.device.Law.{replies-kept}
use Rattle.flat_laws.proofs.past.Legal.{legal-with}
use Rattle.journal_laws.specs.Layers.{BelongsTo}
use Rattle.journal_laws.proofs.past.LegalSteps.{legal-steps, legal-due, front-legal}
use Rattle.journal_laws.proofs.schedule.Whole.{alone_due}
use Rattle.check_laws.specs.Failed.{gaps_told, FailBy}
use Rattle.check_laws.specs.Wrong.{up_to, EndsStep, IsFirstWrong, first_step, CantBeTold}
use Rattle.check_laws.proofs.Faults.{fail-as-told}
use Rattle.check_laws.proofs.Turns.{same-turn, stuck-adds}
use Rattle.i2c_base.proofs.ListLemmas.{get_front, get_back}

take_later : {X : Type 0} (xs ys : List X) (n : ℕ) → take (length xs + n) (xs ++ ys) ≡ xs ++ take n ys
take_later [] ys n = ap (λ (k : ℕ). take k ys) (let e : 0 + n ≡ n = omega arith in e)
take_later (x ∷ xs) ys n =
    ap (λ (k : ℕ). take k (x ∷ xs ++ ys)) (let e : length (x ∷ xs) + n ≡ suc (length xs + n) = omega arith in e)
    ∙ ap (λ (zs : List _). x ∷ zs) (take_later xs ys n)

-- a list is parted at an element
parted_at : {X : Type 0} (xs : List X) (n : ℕ) (x : X) → slice_get xs n ≡ Some x → xs ≡ take n xs ++ x ∷ drop (suc n) xs
parted_at [] n x e = absurd (let f : None ≡ Some x = e in cc)
parted_at (y ∷ xs) zero x e = (let f : y ≡ x = (let g : Some y ≡ Some x = e in cc) in ap (λ (z : _). z ∷ xs) f)
parted_at (y ∷ xs) (suc n) x e = ap (λ (zs : List _). y ∷ zs) (parted_at xs n x e)

-- WHAT BELONGS to a step
belongs-joins : (e s : Entry) (past : List Entry) → BelongsTo s (e ∷ past)
    → (is_stepping e && (is_settle s && (caller_of e == caller_of s))) ≡ true
belongs-joins e (entry.Settle c r cut) past belongs =
    and_from (is_stepping e) (true && (caller_of e == c)) belongs.1 (eq-eqb (caller_of e) c belongs.0)
belongs-joins e (entry.Take c l) past belongs = absurd belongs
belongs-joins e (entry.Free c l) past belongs = absurd belongs
belongs-joins e (entry.Line c mux level failed) past belongs = absurd belongs
belongs-joins e (entry.Message c bus why part parts addr reading bytes heard x) past belongs = absurd belongs

joins-belongs : (e s : Entry) (past : List Entry) → (is_stepping e && (is_settle s && (caller_of e == caller_of s))) ≡ true
    → BelongsTo s (e ∷ past)
joins-belongs e (entry.Settle c r cut) past joins =
    let parts = and_parts (is_stepping e) (true && (caller_of e == c)) joins in
    (eqb-true (caller_of e) c parts.1, parts.0)
joins-belongs e (entry.Take c l) past joins = absurd (let f : false ≡ true = sym (no_settle (is_stepping e)) ∙ joins in cc)
  where
    no_settle : (t : Bool) → (t && (false && (caller_of e == c))) ≡ false
    no_settle true = refl
    no_settle false = refl
joins-belongs e (entry.Free c l) past joins = absurd (let f : false ≡ true = sym (no_settle (is_stepping e)) ∙ joins in cc)
  where
    no_settle : (t : Bool) → (t && (false && (caller_of e == c))) ≡ false
    no_settle true = refl
    no_settle false = refl
joins-belongs e (entry.Line c mux level failed) past joins = absurd (let f : false ≡ true = sym (no_settle (is_stepping e)) ∙ joins in cc)
  where
    no_settle : (t : Bool) → (t && (false && (caller_of e == c))) ≡ false
    no_settle true = refl
    no_settle false = refl
joins-belongs e (entry.Message c bus why part parts addr reading bytes heard x) past joins = absurd
    (let f : false ≡ true = sym (no_settle (is_stepping e)) ∙ joins in cc)
  where
    no_settle : (t : Bool) → (t && (false && (caller_of e == c))) ≡ false
    no_settle true = refl
    no_settle false = refl

-- a settle is no step that another belongs to
settle-steps : (s : Entry) → is_settle s ≡ true → is_stepping s ≡ true → ⊥
settle-steps (entry.Settle c r cut) settles steps = (let f : false ≡ true = steps in cc)
settle-steps (entry.Take c l) settles steps = (let f : false ≡ true = settles in cc)
settle-steps (entry.Free c l) settles steps = (let f : false ≡ true = settles in cc)
settle-steps (entry.Line c mux level failed) settles steps = (let f : false ≡ true = settles in cc)
settle-steps (entry.Message c bus why part parts addr reading bytes heard x) settles steps = (let f : false ≡ true = settles in cc)

module _ (b : BoardView) (tree : IsTree b) (plain : IsPlainBoard b) (lines : LinesAreLocked b) (asks : Asks) (some : AsksForMessages asks)
    (limits : AsksWithinLimits asks) (callers : ℕ) (front : List Entry) (next : Entry) (rest : List Entry)
    (steps : IsStepwise b callers asks (reverse front)) (none : (now b asks (reverse front)).due ≡ None)
    (cant : CantBeTold b callers asks (gaps_told b (front ++ next ∷ rest)) (reverse front) (caller_of next) (next ∷ rest)) where
  abbrev es : List Entry
  es = front ++ next ∷ rest

  abbrev past : List Entry
  past = reverse front

  -- the front with what stands behind it
  behind_front : (told : List Entry) → reverse (front ++ told) ≡ reverse told ++ past
  behind_front told = reverse-append front told

  up-to : (n : ℕ) → up_to es (length front + n) ≡ reverse (take (suc n) (next ∷ rest)) ++ past
  up-to n =
      ap (λ (k : ℕ). reverse (take k es)) (let e : length front + n + 1 ≡ length front + suc n = omega arith in e)
      ∙ ap reverse (take_later front (next ∷ rest) (suc n)) ∙ behind_front (take (suc n) (next ∷ rest))

  -- what is told as the first step can't come
  wrong_by : (told later : List Entry) → next ∷ rest ≡ told ++ later
      → (IsStepwise b callers asks (reverse told ++ past) → May b callers asks (now b asks past) next
      × IsTurn b callers asks past (record { caller = caller_of next; entries = told }))
      → IsLegal b callers asks (reverse told ++ past) → ⊥
  wrong_by told later is comes legal =
      let whole : IsStepwise b callers asks (reverse told ++ past) = legal-steps b tree plain lines asks some limits callers
      (reverse told ++ past) legal in
      let rests : (now b asks (reverse told ++ past)).due ≡ None = legal-due b tree plain lines asks some limits callers
      (reverse told ++ past) legal in
      let turn = comes whole in
      let all : reverse (reverse told ++ past) ++ later ≡ es =
      ap (λ (xs : List Entry). xs ++ later) (reverse-append (reverse told) past ∙ ap (λ (xs : List Entry). xs ++ reverse (reverse told))
      (reverse-reverse front)
      ∙ ap (λ (xs : List Entry). front ++ xs) (reverse-reverse told))
      ∙ append_assoc front told later ∙ ap (λ (xs : List Entry). front ++ xs) (sym is) in
      let fails : FailBy b asks (gaps_told b es) (reverse told ++ past) =
      subst (λ (xs : List Entry). FailBy b asks (gaps_told b xs) (reverse told ++ past)) all
      (fail-as-told b tree plain lines asks some callers (reverse told ++ past) later whole) in
      elim cant [
        | inl stranger ↦ (let low : caller_of next < callers = entry_known b callers asks (now b asks past) next turn.0 in
            absurd (omega (arith, low, stranger)))
        | inr came ↦ elim came [
          | inl stuck ↦ stuck-adds b tree plain lines asks some callers (gaps_told b es) past next turn.0 stuck
          | inr made ↦ (let t : Turn = made.turn in
              let same : t ≡ record { caller = caller_of next; entries = told } =
              same-turn b tree plain lines asks some callers (gaps_told b es) past steps made.turn
              (record { caller = caller_of next; entries = told })
              made.stepped.comes turn.1 made.stepped.own made.stepped.rests rests made.stepped.fails fails in
              made.differs (later, is ∙ ap (λ (xs : List Entry). xs ++ later) (sym (ap (λ (x : Turn). x.entries) same))))
        ]
      ]

  -- a step of one entry, and one of two
  wrong_one : IsLegal b callers asks (next ∷ past) → ⊥
  wrong_one legal =
      wrong_by (next ∷ []) rest refl (λ whole. (
        whole.0,
        inl (record {
          entry = next;
          entries = refl;
          own = refl;
          may = whole.0;
          alone = λ settles. alone_due b tree plain lines asks some callers past steps none next whole.0 settles;
        }),
      )) legal

  wrong_two : (s : Entry) (ss : List Entry) → rest ≡ s ∷ ss → (is_stepping next && (is_settle s && (caller_of next == caller_of s))) ≡ true
      → IsLegal b callers asks (s ∷ next ∷ past) → ⊥
  wrong_two s ss is joins legal =
      let parts = and_parts (is_stepping next) (is_settle s && (caller_of next == caller_of s)) joins in
      let more = and_parts (is_settle s) (caller_of next == caller_of s) parts.1 in
      wrong_by (next ∷ s ∷ []) ss (ap (λ (xs : List Entry). next ∷ xs) is) (λ whole. (
        whole.1.0,
        inr (record {
          entry = next;
          settle = s;
          entries = refl;
          own = refl;
          own_settle = sym (eqb-true (caller_of next) (caller_of s) more.1);
          steps = parts.0;
          settles = more.0;
          may = whole.1.0;
          may_settle = whole.0;
        }),
      )) legal

  -- each front of the legal front that ends a step is legal
  front_is_legal : IsLegal b callers asks past
  front_is_legal = legal-with b tree plain lines asks some callers past steps none
      (replies-kept b tree plain lines asks some limits callers past steps)

  before_front : (j : ℕ) → suc j < length front → EndsStep es j → IsLegal b callers asks (up_to es j)
  before_front j low ends =
      let within : suc j ≤ length front = omega (arith, low) in
      let cut : take (j + 1) es ≡ take (suc j) front = ap (λ (k : ℕ). take k es) (let e : j + 1 ≡ suc j = omega arith in e)
      ∙ take-append-le (suc j) front (next ∷ rest) within in
      let e : Entry = get_or front (suc j) next in
      let here : slice_get front (suc j) ≡ Some (get_or front (suc j) next) = slice_get-get_or front (suc j) next low in
      let there : slice_get es (j + 1) ≡ Some (get_or front (suc j) next) =
      ap (slice_get es) (let f : j + 1 ≡ suc j = omega arith in f) ∙ get_front front (next ∷ rest) (suc j) low ∙ here in
      let split : reverse front ≡ reverse (drop (suc (suc j)) front) ++ get_or front (suc j) next ∷ up_to es j =
      ap reverse (parted_at front (suc j) (get_or front (suc j) next) here)
      ∙ reverse-append (take (suc j) front) (get_or front (suc j) next ∷ drop (suc (suc j)) front)
      ∙ ap (λ (xs : List Entry). xs ++ reverse (take (suc j) front)) (reverse-cons (get_or front (suc j) next) (drop (suc (suc j)) front))
      ∙ append_assoc (reverse (drop (suc (suc j)) front)) (get_or front (suc j) next ∷ []) (reverse (take (suc j) front))
      ∙ ap (λ (xs : List Entry). reverse (drop (suc (suc j)) front) ++ get_or front (suc j) next ∷ reverse xs) (sym cut) in
      front-legal b tree plain lines asks some limits callers (reverse (drop (suc (suc j)) front)) (get_or front (suc j) next) (up_to es j)
      (subst (λ (p : List Entry). IsLegal b callers asks p) split front_is_legal) (ends.behind (get_or front (suc j) next) there)

  whole_front : (j : ℕ) → suc j ≡ length front → IsLegal b callers asks (up_to es j)
  whole_front j all =
      subst (λ (p : List Entry). IsLegal b callers asks p)
      (sym (ap (λ (k : ℕ). reverse (take k es)) (let e : j + 1 ≡ length front = omega (arith, all) in e)
      ∙ ap reverse (take-append-le (length front) front (next ∷ rest) (omega arith) ∙ take_all (length front) front (omega arith))))
      front_is_legal

  up_to_front : (j : ℕ) → j < length front → EndsStep es j → IsLegal b callers asks (up_to es j)
  up_to_front j low ends =
      elim (cases_lt (suc j) (length front)) [ inl h ↦ before_front j h ends | inr h ↦ whole_front j (omega (arith, low, h)) ]

  -- the entry after the next one
  second : (n : Entry) → slice_get es (length front + 1) ≡ Some n → (ss : List Entry) × (rest ≡ n ∷ ss)
  second n at = by rest (sym (get_back front (next ∷ rest) 1) ∙ at)
    where
      by : (xs : List Entry) → slice_get (next ∷ xs) 1 ≡ Some n → (ss : List Entry) × (xs ≡ n ∷ ss)
      by [] e = absurd (let f : None ≡ Some n = e in cc)
      by (x ∷ xs) e = (xs, ap (λ (y : Entry). y ∷ xs) (let f : Some x ≡ Some n = e in let g : x ≡ n = cc in g))

  first_up_to : up_to es (length front) ≡ next ∷ past
  first_up_to = ap (up_to es) (let e : length front ≡ length front + 0 = omega arith in e) ∙ up-to 0

  one_wrong : (length front + first_step (next ∷ rest) - 1 ≡ length front)
      → ((s : Entry) (ss : List Entry) → rest ≡ s ∷ ss → (is_stepping next && (is_settle s && (caller_of next == caller_of s))) ≡ true → ⊥)
      → IsFirstWrong b callers asks es (length front)
  one_wrong is apart =
      record {
        ends = record {
          there = (let e : length es ≡ length front + length (next ∷ rest) = length-append front (next ∷ rest) in omega (arith, e));
          behind = λ n at belongs. let s = second n at in
              apart n s.0 s.1 (belongs-joins next n past (subst (λ (p : List Entry). BelongsTo n p) first_up_to belongs));
        };
        wrong = λ legal. wrong_one (subst (λ (p : List Entry). IsLegal b callers asks p) first_up_to legal);
        before = up_to_front;
      }

  two_wrong : (s : Entry) (ss : List Entry) → rest ≡ s ∷ ss → (is_stepping next && (is_settle s && (caller_of next == caller_of s))) ≡ true
      → IsFirstWrong b callers asks es (length front + 1)
  two_wrong s ss is joins =
      let parts = and_parts (is_stepping next) (is_settle s && (caller_of next == caller_of s)) joins in
      let more = and_parts (is_settle s) (caller_of next == caller_of s) parts.1 in
      let both : up_to es (length front + 1) ≡ s ∷ next ∷ past = up-to 1
      ∙ ap (λ (xs : List Entry). reverse (take 2 (next ∷ xs)) ++ past) is in
      let here : slice_get es (length front + 1) ≡ Some s = get_back front (next ∷ rest) 1 ∙ ap
      (λ (xs : List Entry). slice_get (next ∷ xs) 1) is in
      record {
        ends = record {
          there = (let e : length es ≡ length front + length (next ∷ rest) = length-append front (next ∷ rest) in
              let f : length rest ≡ length (s ∷ ss) = ap (λ (xs : List Entry). length xs) is in omega (arith, e, f));
          behind = λ n at belongs.
              settle-steps s more.0 (and_parts (is_stepping s) (is_settle n && (caller_of s == caller_of n))
              (belongs-joins s n (next ∷ past) (subst (λ (p : List Entry). BelongsTo n p) both belongs))).0;
        };
        wrong = λ legal. wrong_two s ss is joins (subst (λ (p : List Entry). IsLegal b callers asks p) both legal);
        before = λ j low ends. elim (cases_lt j (length front)) [
          | inl h ↦ up_to_front j h ends
          | inr h ↦ (let same : j ≡ length front = omega (arith, low, h) in
              absurd (ends.behind s (ap (slice_get es) (ap (λ (k : ℕ). k + 1) same) ∙ here)
              (subst (λ (p : List Entry). BelongsTo s p) (sym (ap (up_to es) same ∙ first_up_to)) (joins-belongs next s past joins))))
        ];
      }

  pub first-wrong : IsFirstWrong b callers asks es (length front + first_step (next ∷ rest) - 1)
  first-wrong = by rest refl
    where
      by : (xs : List Entry) → rest ≡ xs → IsFirstWrong b callers asks es (length front + first_step (next ∷ rest) - 1)
      by [] is =
          let one : first_step (next ∷ rest) ≡ 1 = ap (λ (ys : List Entry). first_step (next ∷ ys)) is in
          let at : length front + first_step (next ∷ rest) - 1 ≡ length front = omega (arith, one) in
          subst (λ (k : ℕ). IsFirstWrong b callers asks es k) (sym at)
          (one_wrong at (λ s ss f joins. let g : [] ≡ s ∷ ss = sym is ∙ f in cc))
      by (x ∷ xs) is =
          elim (cases_Bool (is_stepping next && (is_settle x && (caller_of next == caller_of x)))) [
            | inl joins ↦ (let two : first_step (next ∷ rest) ≡ 2 = ap (λ (ys : List Entry). first_step (next ∷ ys)) is
                ∙ ap (λ (t : Bool). cond t 2 1) joins in
                let at : length front + first_step (next ∷ rest) - 1 ≡ length front + 1 = omega (arith, two) in
                subst (λ (k : ℕ). IsFirstWrong b callers asks es k) (sym at) (two_wrong x xs is joins))
            | inr apart ↦ (let one : first_step (next ∷ rest) ≡ 1 = ap (λ (ys : List Entry). first_step (next ∷ ys)) is
                ∙ ap (λ (t : Bool). cond t 2 1) apart in
                let at : length front + first_step (next ∷ rest) - 1 ≡ length front = omega (arith, one) in
                subst (λ (k : ℕ). IsFirstWrong b callers asks es k) (sym at)
                (one_wrong at (λ s ss f joins.
                let g : x ∷ xs ≡ s ∷ ss = sym is ∙ f in
                let same : x ≡ s = cc in
                let h : false ≡ true = sym apart ∙ ap (λ (y : Entry). is_stepping next && (is_settle y && (caller_of next == caller_of y)))
                same ∙ joins in cc)))
          ]

-- WHERE ALL BUT A FEW ask for nothing, the first wrong entry is that of the few
pub fewer-wrong : (b : BoardView) (tree : IsTree b) (plain : IsPlainBoard b) (lines : LinesAreLocked b) (asks : Asks)
    (some : AsksForMessages asks)
    (limits : AsksWithinLimits asks) (callers fewer : ℕ) → fewer ≤ callers → ((c : ℕ) → fewer ≤ c → (rs : List Reply) → asks c rs ≡ None)
    → (es : List Entry) (i : ℕ) → IsFirstWrong b callers asks es i → IsFirstWrong b fewer asks es i
fewer-wrong b tree plain lines asks some limits callers fewer low silent es i first =
    record {
      ends = first.ends;
      wrong = λ legal. first.wrong (record {
        known = weaker (up_to es i) legal.known;
        locks = legal.locks;
        whole = legal.whole;
        walks = legal.walks;
        reach = legal.reach;
        replies_kept = legal.replies_kept;
        settles = legal.settles;
      });
      before = λ j less ends.
          let legal = first.before j less ends in
          let steps = (callers-known b callers fewer asks silent (up_to es j) (legal-steps b tree plain lines asks some limits callers
          (up_to es j) legal)).0 in
          legal-with b tree plain lines asks some fewer (up_to es j) steps (legal-due b tree plain lines asks some limits callers
          (up_to es j) legal)
          (replies-kept b tree plain lines asks some limits fewer (up_to es j) steps);
    }
  where
    weaker : (past : List Entry) → Everywhere (λ e before. caller_of e < fewer) past → Everywhere (λ e before. caller_of e < callers) past
    weaker [] known = tt
    weaker (e ∷ past) known = (omega (arith, low, known.0), weaker past known.1)
