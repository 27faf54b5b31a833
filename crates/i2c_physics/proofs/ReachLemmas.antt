-- Targets that no message has reached are quiet: telling the others alone leaves what telling all leaves. The inductions
-- go over the targets, the first being number j.
use Rattle.i2c_physics.proofs.Cited.{◌≡◌, ℕ, zero, suc, ◌+◌, ◌<◌, Bool, true, false, ◌&&◌, ◌||◌, cond, List, [], ◌∷◌, length, Option, Some}
use Rattle.i2c_physics.proofs.Cited.{None, refl, sym, ap, ◌∙◌, subst, inl, inr, arith, add-zero, zero-add, not, IsSome, slice_get, filter}
use Rattle.i2c_physics.proofs.Cited.{range_with_len, option_map, cases_Bool, eqb_tells, slice_get_cases, Event, Answer, Nothing, Table}
use Rattle.i2c_physics.proofs.Cited.{ChipView, IsQuiet, feed, given, answers, answer_with, has_heard, start_event, stop_event, numbers_of}
use Rattle.i2c_physics.proofs.Cited.{PlaceView, event_if, is_among, AreRising, to_those, joins_at, has_at, addressed, others, union_of}
use Rattle.i2c_physics.proofs.Cited.{IsReach}
use Rattle.std.specs.Prelude.{◌⊎◌}
use Rattle.std.proofs.lemmas.Bool.{or_parts}
use Rattle.std.proofs.lemmas.Option.{same_Some}
use Rattle.i2c_base.specs.declared.event.Event.TheVariants as event
use Rattle.i2c_physics.proofs.NumberLemmas.{rising-filter, rising-of_range, rising-lower, among-filter, among-range}
use Rattle.i2c_physics.proofs.WiredAndLemmas.{length-feed}
use Rattle.std.proofs.Math.Bool.{or-true}

true_false : true ≡ false → ⊥
true_false e = cc

some_none : {A : Type 0} (x : A) → Some x ≡ None → ⊥
some_none x e = cc

some_if : (b : Bool) (e : Event) → IsSome (event_if b e) → b ≡ true
some_if true e is = refl
some_if false e is = absurd (true_false (sym is))

is_within : {A : Type 0} (xs : List A) (i : ℕ) (x : A) → slice_get xs i ≡ Some x → i < length xs
is_within xs i x is =
    elim (slice_get_cases xs i).1 [
      | inl there ↦ there.1
      | inr none ↦ absurd (some_none x (sym is ∙ none.1))
    ]

further : (j i : ℕ) → j + suc i ≡ j + 1 + i
further j i = omega arith

said_rise : (b : Bool) (j high : ℕ) (ns : List ℕ) → j < high → AreRising (j + 1) high ns → AreRising j high (cond b (j ∷ ns) ns)
said_rise true j high ns low r = (omega arith, low, r)
said_rise false j high ns low r = rising-lower (j + 1) j high ns (omega arith) r

module _ {X : Type 0} (t : Table X) where
  -- a target after its event
  fed_get : (f : ℕ → Option Event) (j i : ℕ) (xs : List X) → slice_get (feed t f j xs) i ≡ option_map (given t (f (j + i))) (slice_get xs i)
  fed_get f j i [] = refl
  fed_get f j zero (x ∷ xs) = ap (λ k. Some (given t (f k) x)) (sym (add-zero j))
  fed_get f j (suc i) (x ∷ xs) =
      let e : j + 1 + i ≡ j + suc i = omega arith in
      fed_get f (j + 1) i xs ∙ ap (λ k. option_map (given t (f k)) (slice_get xs i)) e

  -- events that do the same to each target
  pub fed-alike : (f g : ℕ → Option Event) (j : ℕ) (xs : List X)
      → ((i : ℕ) (x : X) → slice_get xs i ≡ Some x → given t (g (j + i)) x ≡ given t (f (j + i)) x) → feed t g j xs ≡ feed t f j xs
  fed-alike f g j [] alike = refl
  fed-alike f g j (x ∷ xs) alike =
      ap (λ y. y ∷ feed t g (j + 1) xs) (subst (λ k. given t (g k) x ≡ given t (f k) x) (add-zero j) (alike 0 x refl))
      ∙ ap (λ rest. given t (f j) x ∷ rest)
      (fed-alike f g (j + 1) xs (λ i y e. subst (λ k. given t (g k) y ≡ given t (f k) y) (further j i) (alike (suc i) y e)))

  -- two events, one after the other
  fed_twice : (f g h : ℕ → Option Event) (j : ℕ) (xs : List X)
      → ((i : ℕ) (x : X) → slice_get xs i ≡ Some x → given t (g (j + i)) (given t (f (j + i)) x) ≡ given t (h (j + i)) x)
      → feed t g j (feed t f j xs) ≡ feed t h j xs
  fed_twice f g h j [] alike = refl
  fed_twice f g h j (x ∷ xs) alike =
      ap (λ y. y ∷ feed t g (j + 1) (feed t f (j + 1) xs))
      (subst (λ k. given t (g k) (given t (f k) x) ≡ given t (h k) x) (add-zero j) (alike 0 x refl))
      ∙ ap (λ rest. given t (h j) x ∷ rest)
      (fed_twice f g h (j + 1) xs (λ i y e. subst (λ k. given t (g k) (given t (f k) y) ≡ given t (h k) y) (further j i)
      (alike (suc i) y e)))

  -- a start for another is answered by nothing: whether it is told or not is not heard
  abbrev pub Alike : Option Event → Option Event → Type 0
  Alike o p = (p ≡ o) ⊎ ((p ≡ None) × (o ≡ Some event.Other))

  module _ {A : Type 0} (R : List (ℕ × Answer) → A) (step : ℕ × Answer → A → A)
      (is : (x : ℕ × Answer) (xs : List (ℕ × Answer)) → R (x ∷ xs) ≡ step x (R xs))
      (silent : (k : ℕ) (xs : List (ℕ × Answer)) → R ((k, Nothing) ∷ xs) ≡ R xs)
      (nothing : (x : X) → t.answer x event.Other ≡ Nothing) where
    same_event : (o : Option Event) (k : ℕ) (x : X) (xs ys : List (ℕ × Answer)) → R ys ≡ R xs
        → R (answer_with t o k x ys) ≡ R (answer_with t o k x xs)
    same_event None k x xs ys rest = rest
    same_event (Some e) k x xs ys rest = is (k, t.answer x e) ys ∙ ap (step (k, t.answer x e)) rest ∙ sym (is (k, t.answer x e) xs)

    one_heard : (o p : Option Event) (k : ℕ) (x : X) (xs ys : List (ℕ × Answer)) → Alike o p → R ys ≡ R xs
        → R (answer_with t p k x ys) ≡ R (answer_with t o k x xs)
    one_heard o p k x xs ys alike rest =
        elim alike [
          | inl same ↦ ap (λ q. R (answer_with t q k x ys)) same ∙ same_event o k x xs ys rest
          | inr other ↦ ap (λ q. R (answer_with t q k x ys)) other.0 ∙ rest ∙ sym (silent k xs)
              ∙ ap (λ a. R ((k, a) ∷ xs)) (sym (nothing x))
              ∙ ap (λ q. R (answer_with t q k x xs)) (sym other.1)
        ]

    pub heard-alike : (f g : ℕ → Option Event) (j : ℕ) (xs : List X) → ((i : ℕ) → i < length xs → Alike (f (j + i)) (g (j + i)))
        → R (answers t g j xs) ≡ R (answers t f j xs)
    heard-alike f g j [] alike = refl
    heard-alike f g j (x ∷ xs) alike =
        one_heard (f j) (g j) j x (answers t f (j + 1) xs) (answers t g (j + 1) xs)
        (subst (λ k. Alike (f k) (g k)) (add-zero j) (alike 0 (omega arith)))
        (heard-alike f g (j + 1) xs (λ i low. subst (λ k. Alike (f k) (g k)) (further j i) (alike (suc i) (omega arith))))

  -- who has heard was told
  heard_rise : (o : Option Event) (j high : ℕ) (x : X) (rest : List (ℕ × Answer)) → j < high → AreRising (j + 1) high (numbers_of rest)
      → AreRising j high (numbers_of (answer_with t o j x rest))
  heard_rise None j high x rest low r = rising-lower (j + 1) j high (numbers_of rest) (omega arith) r
  heard_rise (Some e) j high x rest low r = said_rise (has_heard (t.answer x e)) j high (numbers_of rest) low r

  pub rising-heard : (f : ℕ → Option Event) (j high : ℕ) (xs : List X) → j + length xs ≡ high
      → AreRising j high (numbers_of (answers t f j xs))
  rising-heard f j high [] e = tt
  rising-heard f j high (x ∷ xs) e = heard_rise (f j) j high x (answers t f (j + 1) xs) (omega arith)
      (rising-heard f (j + 1) high xs (omega arith))

-- a target that has heard was told of its event
heard_first : (b : Bool) (k n : ℕ) (ns : List ℕ) → is_among (cond b (k ∷ ns) ns) n ≡ true → (k ≡ n) ⊎ (is_among ns n ≡ true)
heard_first true k n ns heard =
    elim (eqb_tells k n) [
      | inl same ↦ inl same.1
      | inr other ↦ inr (rw other.0 at heard)
    ]
heard_first false k n ns heard = inr heard

module _ {X : Type 0} (t : Table X) where
  heard_here : (o : Option Event) (k n : ℕ) (x : X) (rest : List (ℕ × Answer)) → is_among (numbers_of (answer_with t o k x rest)) n ≡ true
      → ((k ≡ n) × IsSome o) ⊎ (is_among (numbers_of rest) n ≡ true)
  heard_here None k n x rest heard = inr heard
  heard_here (Some e) k n x rest heard =
      elim (heard_first (has_heard (t.answer x e)) k n (numbers_of rest) heard) [
        | inl same ↦ inl (same, refl)
        | inr later ↦ inr later
      ]

  pub heard-told : (f : ℕ → Option Event) (j n : ℕ) (xs : List X) → is_among (numbers_of (answers t f j xs)) n ≡ true
      → IsSome (f n) × (n < j + length xs)
  heard-told f j n [] heard = absurd (true_false (sym heard))
  heard-told f j n (x ∷ xs) heard =
      elim (heard_here (f j) j n x (answers t f (j + 1) xs) heard) [
        | inl here ↦ (subst (λ k. IsSome (f k)) here.0 here.1, omega (arith, here.0))
        | inr later ↦ (let rest = heard-told f (j + 1) n xs later in (rest.0, omega (arith, rest.1)))
      ]

  -- what stays quiet, by what each target is told
  pub quiet-fed : (f : ℕ → Option Event) (xs : List X) (told : List ℕ)
      → ((k : ℕ) (x : X) → slice_get xs k ≡ Some x → is_among told k ≡ false → IsQuiet t (given t (f k) x))
      → (k : ℕ) (y : X) → slice_get (feed t f 0 xs) k ≡ Some y → is_among told k ≡ false → IsQuiet t y
  quiet-fed f xs told each k y is out =
      elim (slice_get_cases xs k).1 [
        | inl x ↦ (let new : Some (given t (f k) x.0) ≡ Some y = sym (fed_get t f 0 k xs ∙ ap (option_map (given t (f (0 + k)))) x.2
            ∙ ap (λ m. Some (given t (f m) x.0)) (zero-add k)) ∙ is in
            subst (IsQuiet t) (same_Some _ _ new) (each k x.0 x.2 out))
        | inr none ↦ absurd (some_none _ (sym is ∙ fed_get t f 0 k xs ∙ ap (option_map (given t (f (0 + k)))) none.1))
      ]

module _ {X : Type 0} (t : Table X) (xs : List X) (started hearing : List ℕ) (reached : IsReach t xs started hearing) where
  not_among : (k : ℕ) → is_among started k ≡ false → is_among hearing k ≡ false
  not_among k out =
      elim (cases_Bool (is_among hearing k)) [
        | inl heard ↦ absurd (true_false (sym (reached.hearing_started k heard) ∙ out))
        | inr deaf ↦ deaf
      ]

  is_there : (i : ℕ) (x : X) → slice_get xs i ≡ Some x → i < length xs
  is_there = is_within xs

  -- a byte goes to those who have heard
  pub reached-sent : (e : Event) → IsReach t (feed t (to_those hearing e) 0 xs) started hearing
  reached-sent e = record {
    few = rw (length-feed t (to_those hearing e) 0 xs) reached.few;
    started_rise = rw (length-feed t (to_those hearing e) 0 xs) reached.started_rise;
    hearing_rise = rw (length-feed t (to_those hearing e) 0 xs) reached.hearing_rise;
    hearing_started = reached.hearing_started;
    quiet = quiet-fed t (to_those hearing e) xs started (λ k x is out.
        let deaf : is_among hearing k ≡ false = not_among k out in
        rw deaf (reached.quiet k x is out));
  }

  module _ (J : ℕ → Bool) where
    -- a stop goes to all that is joined
    stop_one : (s j : Bool) (x : X) → (s ≡ false → IsQuiet t x) → given t (event_if (s && j) event.Stop) x ≡ given t (stop_event j) x
    stop_one true true x quiet = refl
    stop_one true false x quiet = refl
    stop_one false true x quiet = sym (quiet refl).stop
    stop_one false false x quiet = refl

    pub stopped-fed : feed t (to_those (filter J started) event.Stop) 0 xs ≡ feed t (λ k. stop_event (J k)) 0 xs
    stopped-fed =
        fed-alike t (λ k. stop_event (J k)) (to_those (filter J started) event.Stop) 0 xs (λ i x is.
        let k : 0 + i ≡ i = zero-add i in
        rw (k, among-filter J started i) (stop_one (is_among started i) (J i) x (reached.quiet i x is)))

    left_one : (s j : Bool) (x : X) → ((y : X) → IsQuiet t (t.after y event.Stop)) → (s ≡ false → IsQuiet t x) → (s && not j) ≡ false
        → IsQuiet t (given t (event_if (s && j) event.Stop) x)
    left_one true true x stops quiet out = stops x
    left_one true false x stops quiet out = absurd (true_false out)
    left_one false j x stops quiet out = quiet refl

    pub reached-stopped : ((y : X) → IsQuiet t (t.after y event.Stop))
        → IsReach t (feed t (to_those (filter J started) event.Stop) 0 xs) (filter (λ k. not (J k)) started) []
    reached-stopped stops = record {
      few = rw (length-feed t (to_those (filter J started) event.Stop) 0 xs) reached.few;
      started_rise = rw (length-feed t (to_those (filter J started) event.Stop) 0 xs)
          (rising-filter (λ k. not (J k)) 0 (length xs) started reached.started_rise);
      hearing_rise = tt;
      hearing_started = λ k heard. absurd (true_false (sym heard));
      quiet = quiet-fed t (to_those (filter J started) event.Stop) xs (filter (λ k. not (J k)) started) (λ k x is out.
          rw (among-filter J started k) (left_one (is_among started k) (J k) x stops (reached.quiet k x is)
          (sym (among-filter (λ m. not (J m)) started k) ∙ out)));
    }

  -- a start calls those who have the address, and is an Other for the rest
  module _ (chips : List ChipView) (places : List PlaceView) (a : ℕ) (reading : Bool) (same : length places ≡ length xs) where
    among_called : (k : ℕ) → k < length xs → is_among (addressed chips places a) k ≡ (has_at a places k && joins_at chips places k)
    among_called k low =
        among-filter (λ m. has_at a places m && joins_at chips places m) (range_with_len 0 (length places)) k
        ∙ rw (among-range (length places) k (omega (arith, low, same))) refl

    among_others : (k : ℕ) → is_among (others chips places a started) k ≡
        (is_among started k && (not (has_at a places k) && joins_at chips places k))
    among_others k = among-filter (λ m. not (has_at a places m) && joins_at chips places m) started k

    among_either : (k : ℕ) → k < length xs
        → is_among (union_of (length xs) started (addressed chips places a)) k ≡
        (is_among started k || is_among (addressed chips places a) k)
    among_either k low =
        among-filter (λ m. is_among started m || is_among (addressed chips places a) m) (range_with_len 0 (length xs)) k
        ∙ rw (among-range (length xs) k low) refl

    start_one : (s j h : Bool) (x : X) → (s ≡ false → IsQuiet t x)
        → given t (event_if (s && (not h && j)) event.Other) (given t (event_if (h && j) (event.Start reading)) x) ≡ given t
        (start_event j h reading) x
    start_one true true true x quiet = refl
    start_one true true false x quiet = refl
    start_one true false true x quiet = refl
    start_one true false false x quiet = refl
    start_one false true true x quiet = refl
    start_one false true false x quiet = sym (quiet refl).other
    start_one false false true x quiet = refl
    start_one false false false x quiet = refl

    pub started-fed : feed t (to_those (others chips places a started) event.Other) 0
        (feed t (to_those (addressed chips places a) (event.Start reading)) 0 xs)
        ≡ feed t (λ k. start_event (joins_at chips places k) (has_at a places k) reading) 0 xs
    started-fed =
        fed_twice t (to_those (addressed chips places a) (event.Start reading)) (to_those (others chips places a started) event.Other)
        (λ k. start_event (joins_at chips places k) (has_at a places k) reading) 0 xs
        (λ i x is. rw (zero-add, among_called i (is_there i x is), among_others i)
        (start_one (is_among started i) (joins_at chips places i) (has_at a places i) x (reached.quiet i x is)))

    alike_one : (j h : Bool) → Alike t (start_event j h reading) (event_if (h && j) (event.Start reading))
    alike_one true true = inl refl
    alike_one true false = inr (refl, refl)
    alike_one false true = inl refl
    alike_one false false = inl refl

    pub started-heard : {A : Type 0} (R : List (ℕ × Answer) → A) (step : ℕ × Answer → A → A)
        → ((x : ℕ × Answer) (ys : List (ℕ × Answer)) → R (x ∷ ys) ≡ step x (R ys))
        → ((k : ℕ) (ys : List (ℕ × Answer)) → R ((k, Nothing) ∷ ys) ≡ R ys)
        → ((x : X) → t.answer x event.Other ≡ Nothing)
        → R (answers t (to_those (addressed chips places a) (event.Start reading)) 0 xs)
        ≡ R (answers t (λ k. start_event (joins_at chips places k) (has_at a places k) reading) 0 xs)
    started-heard R step is silent nothing =
        heard-alike t R step is silent nothing (λ k. start_event (joins_at chips places k) (has_at a places k) reading)
        (to_those (addressed chips places a) (event.Start reading)) 0 xs
        (λ i low. rw (zero-add, among_called i low) (alike_one (joins_at chips places i) (has_at a places i)))

    out_of_both : (k : ℕ) → k < length xs → is_among (union_of (length xs) started (addressed chips places a)) k ≡ false
        → (is_among started k ≡ false) × (is_among (addressed chips places a) k ≡ false)
    out_of_both k low out = or_parts (is_among started k) (is_among (addressed chips places a) k) (sym (among_either k low) ∙ out)

    still_quiet : (k : ℕ) (x : X) → slice_get xs k ≡ Some x → is_among (union_of (length xs) started (addressed chips places a)) k ≡ false
        → IsQuiet t (given t (to_those (addressed chips places a) (event.Start reading) k) x)
    still_quiet k x is out =
        let both = out_of_both k (is_there k x is) out in
        rw both.1 (reached.quiet k x is both.0)

    quiet_called : (k : ℕ) (y : X) → slice_get (feed t (to_those (addressed chips places a) (event.Start reading)) 0 xs) k ≡ Some y
        → is_among (union_of (length xs) started (addressed chips places a)) k ≡ false → IsQuiet t y
    quiet_called = quiet-fed t (to_those (addressed chips places a) (event.Start reading)) xs
        (union_of (length xs) started (addressed chips places a)) still_quiet

    quiet_others : (k : ℕ) (y : X) → slice_get (feed t (to_those (addressed chips places a) (event.Start reading)) 0 xs) k ≡ Some y
        → is_among (union_of (length xs) started (addressed chips places a)) k ≡ false
        → IsQuiet t (given t (to_those (others chips places a started) event.Other k) y)
    quiet_others k y is out =
        let low : k < length xs = omega (
          arith,
          is_within (feed t (to_those (addressed chips places a) (event.Start reading)) 0 xs) k y is,
          length-feed t
              (to_those (addressed chips places a) (event.Start reading)) 0 xs,
        ) in
        let both = out_of_both k low out in
        let none : is_among (others chips places a started) k ≡ false = among_others k ∙ rw both.0 refl in
        rw none (quiet_called k y is out)

    pub reached-started : IsReach t
        (feed t (to_those (others chips places a started) event.Other) 0
        (feed t (to_those (addressed chips places a) (event.Start reading)) 0 xs))
        (union_of (length xs) started (addressed chips places a))
        (numbers_of (answers t (to_those (addressed chips places a) (event.Start reading)) 0 xs))
    reached-started =
        let count = length-feed t (to_those (others chips places a started) event.Other) 0
        (feed t (to_those (addressed chips places a) (event.Start reading)) 0 xs)
        ∙ length-feed t (to_those (addressed chips places a) (event.Start reading)) 0 xs in
        record {
          few = rw count reached.few;
          started_rise = rw count (rising-of_range (λ k. is_among started k || is_among (addressed chips places a) k) (length xs));
          hearing_rise = rw count (rising-heard t (to_those (addressed chips places a) (event.Start reading)) 0 (length xs) xs
              (zero-add (length xs)));
          hearing_started = λ k heard.
              let told = heard-told t (to_those (addressed chips places a) (event.Start reading)) 0 k xs heard in
              let is = some_if (is_among (addressed chips places a) k) (event.Start reading) told.0 in
              among_either k (omega (arith, told.1)) ∙ rw is (or-true (is_among started k));
          quiet = quiet-fed t (to_those (others chips places a started) event.Other)
              (feed t (to_those (addressed chips places a) (event.Start reading)) 0 xs)
              (union_of (length xs) started (addressed chips places a)) quiet_others;
        }
