-- Targets that are given their events one by one, where a single pass gives each of them its own. The inductions go
-- over the targets.
use Rattle.flat_world.proofs.Cited.{◌≡◌, ℕ, zero, suc, ◌+◌, ◌<◌, ◌≤◌, Bool, true, false, cond, not, ◌||◌, List, [], ◌∷◌, ◌++◌, length, take}
use Rattle.flat_world.proofs.Cited.{get_or, eqb, Option, Some, None, refl, sym, ap, ◌∙◌, inl, inr, arith, eqb_tells, feed, TargetState}
use Rattle.flat_world.proofs.Cited.{state_table, FlatListener, is_member, flat_start, to_current, answer_of, feed-same, to_others}
use Rattle.flat_world.proofs.Cited.{answer_in, is_it}
use Rattle.std.proofs.Common.{◌≢◌, set, slice_get, add-zero, zero-add}
use Rattle.std.specs.Option.{option_map_or, option_eq}
use Rattle.std.proofs.lemmas.Bool.{ne_eqb}
use Rattle.std.proofs.lemmas.List.{take_more}
use Rattle.i2c_base.specs.declared.event.Event.{Event}
use Rattle.i2c_base.specs.declared.event.Event.TheVariants as event
use Rattle.i2c_base.specs.declared.event.Answer.TheVariants as answer
use Rattle.i2c_base.specs.Table.{Table}
use Rattle.i2c_spec.specs.World.{given}
use Rattle.flat_world.proofs.NamedLemmas.{is_member-push}

-- devices that are read, told of an event and kept
pub states_told : (f : ℕ → Option Event) (old read told new : List TargetState) → read ≡ old → told ≡ feed state_table f 0 read → new ≡ told
    → new ≡ feed state_table f 0 old
states_told f old read told new same fed is = is ∙ fed ∙ ap (feed state_table f 0) same

pub states_answer : (ds : List TargetState) (o : Option ℕ) (e : Event) → answer_in state_table ds o e ≡ answer_of ds o e
states_answer ds None e = refl
states_answer ds (Some n) e = refl

module _ {X : Type 0} (t : Table X) where
  none_fed : (f : ℕ → Option Event) (j : ℕ) (xs : List X) → ((k : ℕ) → j ≤ k → k < j + length xs → f k ≡ None) → feed t f j xs ≡ xs
  none_fed f j [] none = refl
  none_fed f j (x ∷ xs) none =
      ap (λ o. given t o x ∷ feed t f (j + 1) xs) (none j (omega arith) (omega arith))
      ∙ ap (λ rest. x ∷ rest) (none_fed f (j + 1) xs (λ k low high. none k (omega arith) (omega arith)))

  one_fed : (f : ℕ → Option Event) (e : Event) (j i : ℕ) (xs : List X) (d : X) → i < length xs
      → f (j + i) ≡ Some e → ((k : ℕ) → k ≢ j + i → f k ≡ None) → feed t f j xs ≡ set xs i (t.after (get_or xs i d) e)
  one_fed f e j i [] d within some none = absurd (omega arith)
  one_fed f e j zero (x ∷ xs) d within some none =
      ap (λ o. given t o x ∷ feed t f (j + 1) xs) (ap f (sym (add-zero j)) ∙ some)
      ∙ ap (λ rest. t.after x e ∷ rest) (none_fed f (j + 1) xs (λ k low high. none k (λ same. absurd (omega (arith, same)))))
  one_fed f e j (suc i) (x ∷ xs) d within some none =
      let at : j + 1 + i ≡ j + suc i = omega arith in
      ap (λ o. given t o x ∷ feed t f (j + 1) xs) (none j (λ same. absurd (omega (arith, same))))
      ∙ ap (λ rest. x ∷ rest) (one_fed f e (j + 1) i xs d (omega arith) (ap f at ∙ some)
      (λ k other. none k (λ same. other (same ∙ sym at))))

  other : (n : ℕ) (e : Event) (k : ℕ) → k ≢ n → to_current (Some n) e k ≡ None
  other n e k ne = let differs : eqb n k ≡ false = ne_eqb n k (λ same. ne (sym same)) in rw differs refl

  itself : (n : ℕ) (e : Event) → to_current (Some n) e n ≡ Some e
  itself n e = let same : eqb n n ≡ true = elim (eqb_tells n n) [ inl x ↦ x.0 | inr x ↦ absurd (x.1 refl) ] in rw same refl

  -- one target is told, where it is there
  pub told_fed : (n : ℕ) (e : Event) (xs : List X) (d y : X) → n < length xs → y ≡ t.after (get_or xs n d) e
      → set xs n y ≡ feed t (to_current (Some n) e) 0 xs
  told_fed n e xs d y within made =
      ap (set xs n) made
      ∙ sym (one_fed (to_current (Some n) e) e 0 n xs d within (ap (to_current (Some n) e) (zero-add n) ∙ itself n e)
      (λ k ne. other n e k (λ same. ne (same ∙ sym (zero-add n)))))

  pub absent_fed : (n : ℕ) (e : Event) (xs : List X) → length xs ≤ n → xs ≡ feed t (to_current (Some n) e) 0 xs
  absent_fed n e xs past = sym (none_fed (to_current (Some n) e) 0 xs (λ k low high. other n e k (λ same. absurd (omega (arith, same)))))

  absent_get : (n : ℕ) (xs : List X) → length xs ≤ n → slice_get xs n ≡ None
  absent_get n [] past = refl
  absent_get zero (x ∷ xs) past = absurd (omega arith)
  absent_get (suc n) (x ∷ xs) past = absent_get n xs (omega arith)

  pub absent_answer : (n : ℕ) (e : Event) (xs : List X) → length xs ≤ n → answer.Nothing ≡ answer_in t xs (Some n) e
  absent_answer n e xs past = sym (ap (λ o. option_map_or (λ x. t.answer x e) o answer.Nothing) (absent_get n xs past))

  pub nobody_fed : (e : Event) (xs : List X) → xs ≡ feed t (to_current None e) 0 xs
  nobody_fed e xs = sym (none_fed (to_current None e) 0 xs (λ k low high. refl))

  -- one pass, and another over what it left
  pub fed_twice : (f g h : ℕ → Option Event) → ((k : ℕ) (x : X) → given t (g k) (given t (f k) x) ≡ given t (h k) x)
      → (j : ℕ) (xs : List X) → feed t g j (feed t f j xs) ≡ feed t h j xs
  fed_twice f g h both j [] = refl
  fed_twice f g h both j (x ∷ xs) =
      ap (λ y. y ∷ feed t g (j + 1) (feed t f (j + 1) xs)) (both j x)
      ∙ ap (λ ys. given t (h j) x ∷ ys) (fed_twice f g h both (j + 1) xs)

  -- a start, and the others that were named before
  by_start : (granted : Option ℕ) (b c : Bool) (reading : Bool) (x : X)
      → given t (cond b None (cond c (Some event.Other) None)) (given t (cond b (Some (event.Start reading)) None) x)
      ≡ given t (cond b (Some (event.Start reading)) (cond c (Some event.Other) None)) x
  by_start granted true c reading x = refl
  by_start granted false c reading x = refl

  pub start_fed : (granted : Option ℕ) (named : List ℕ) (reading : Bool) (xs : List X)
      → feed t (to_others granted named event.Other) 0 (feed t (to_current granted (event.Start reading)) 0 xs) ≡ feed t
      (flat_start granted named reading) 0 xs
  start_fed granted named reading xs =
      fed_twice (to_current granted (event.Start reading)) (to_others granted named event.Other) (flat_start granted named reading)
      (λ k x. by_start granted (is_it granted k) (is_member k named) reading x) 0 xs

  -- nobody of the others is told yet
  none_others : (one : Option ℕ) (e : Event) (k : ℕ) (b : Bool) → is_it one k ≡ b → to_others one [] e k ≡ None
  none_others one e k true is = rw is refl
  none_others one e k false is = rw is refl

  pub others_none : (one : Option ℕ) (e : Event) (xs : List X) → xs ≡ feed t (to_others one [] e) 0 xs
  others_none one e xs = sym (none_fed (to_others one [] e) 0 xs (λ k low high. none_others one e k (is_it one k) refl))

  -- one more of the others is told, or passed over
  module _ (one : Option ℕ) (ns : List ℕ) (e : Event) (i n : ℕ) (within : i < length ns) (is : n ≡ get_or ns i 0) where
    front : take (i + 1) ns ≡ take i ns ++ n ∷ []
    front = take_more ns i 0 within ∙ ap (λ m. take i ns ++ m ∷ []) (sym is)

    more : (k : ℕ) → to_others one (take (i + 1) ns) e k ≡ cond (is_it one k) None (cond (is_member k (take i ns) || eqb n k) (Some e) None)
    more k = ap (λ ms. to_others one ms e k) front
        ∙ ap (λ b. cond (is_it one k) None (cond b (Some e) None)) (is_member-push k n (take i ns))

    told_one : (k : ℕ) (x : X) (o b c : Bool) → is_it one k ≡ o → is_member k (take i ns) ≡ b → eqb n k ≡ c
        → (c ≡ true → (o ≡ false) × (b ≡ false))
        → given t (cond c (Some e) None) (given t (cond o None (cond b (Some e) None)) x) ≡ given t
        (cond o None (cond (b || c) (Some e) None)) x
    told_one k x true b true p q r apart = absurd (let f : true ≡ false = (apart refl).0 in cc)
    told_one k x true b false p q r apart = refl
    told_one k x false true true p q r apart = absurd (let f : true ≡ false = (apart refl).1 in cc)
    told_one k x false true false p q r apart = refl
    told_one k x false false true p q r apart = refl
    told_one k x false false false p q r apart = refl

    module _ (passes : is_it one n ≡ false) (new : is_member n (take i ns) ≡ false) where
      apart : (k : ℕ) → eqb n k ≡ true → (is_it one k ≡ false) × (is_member k (take i ns) ≡ false)
      apart k same =
          elim (eqb_tells n k) [
            | inl x ↦ (ap (is_it one) (sym x.1) ∙ passes, ap (λ m. is_member m (take i ns)) (sym x.1) ∙ new)
            | inr x ↦ absurd (let f : true ≡ false = sym same ∙ x.0 in cc)
          ]

      pub others_more : (xs : List X)
          → feed t (to_current (Some n) e) 0 (feed t (to_others one (take i ns) e) 0 xs) ≡ feed t (to_others one (take (i + 1) ns) e) 0 xs
      others_more xs =
          fed_twice (to_others one (take i ns) e) (to_current (Some n) e) (to_others one (take (i + 1) ns) e)
          (λ k x. told_one k x (is_it one k) (is_member k (take i ns)) (eqb n k) refl refl refl (apart k)
          ∙ ap (λ o. given t o x) (sym (more k))) 0 xs

    skipped : (k : ℕ) (o b c : Bool) → (c ≡ true → o ≡ true)
        → cond o None (cond (b || c) (Some e) None) ≡ cond o None (cond b (Some e) None)
    skipped k true b c p = refl
    skipped k false true c p = refl
    skipped k false false true p = absurd (let f : false ≡ true = p refl in cc)
    skipped k false false false p = refl

    pub others_passed : (xs : List X) → is_it one n ≡ true
        → feed t (to_others one (take i ns) e) 0 xs ≡ feed t (to_others one (take (i + 1) ns) e) 0 xs
    others_passed xs passed =
        sym (feed-same t (to_others one (take i ns) e) (to_others one (take (i + 1) ns) e) 0 xs
        (λ k low high. more k ∙ skipped k (is_it one k) (is_member k (take i ns)) (eqb n k)
        (λ same. elim (eqb_tells n k) [
          | inl x ↦ ap (is_it one) (sym x.1)
              ∙ passed
          | inr x ↦ absurd (let f : true ≡ false = sym same ∙ x.0 in cc)
        ])))

-- a start for one device, and for those named before it
pub states_started : (granted : Option ℕ) (named : List ℕ) (reading : Bool) (old read told kept again others new : List TargetState)
    → read ≡ old → told ≡ feed state_table (to_current granted (event.Start reading)) 0 read → kept ≡ told
    → again ≡ kept → others ≡ feed state_table (to_others granted named event.Other) 0 again → new ≡ others
    → new ≡ feed state_table (flat_start granted named reading) 0 old
states_started granted named reading old read told kept again others new same fed is next rest last =
    states_told (to_others granted named event.Other) kept again others new next rest last
    ∙ ap (feed state_table (to_others granted named event.Other) 0)
    (states_told (to_current granted (event.Start reading)) old read told kept same fed is)
    ∙ start_fed state_table granted named reading old

pub same_listener : (xs ys : List TargetState) (ms ns : List ℕ) (o p : Option ℕ) → xs ≡ ys → ms ≡ ns → o ≡ p
    → ◌≡◌ {A = FlatListener} (record { states = xs; named = ms; current = o }) (record { states = ys; named = ns; current = p })
same_listener xs ys ms ns o p e f g =
    ap (λ (zs : List TargetState). record { states = zs; named = ms; current = o }) e
    ∙ ap (λ (ds : List ℕ). record { states = ys; named = ds; current = o }) f
    ∙ ap (λ (q : Option ℕ). record { states = ys; named = ns; current = q }) g

-- a number is passed over where it is that of the one
pub passes_by : (one : Option ℕ) (n : ℕ) (differs : Bool) → differs ≡ not (option_eq eqb one (Some n)) → is_it one n ≡ not differs
passes_by None n differs e = ap not (sym e)
passes_by (Some k) n differs e = twice (eqb k n) ∙ ap not (sym e)
  where
    twice : (b : Bool) → b ≡ not (not b)
    twice true = refl
    twice false = refl
