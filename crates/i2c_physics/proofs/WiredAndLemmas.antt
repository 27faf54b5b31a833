-- Targets that are told of an event by their numbers, the highest number first: one target more.
use Rattle.i2c_physics.proofs.Cited.{◌≡◌, ◌≢◌, ℕ, zero, suc, ◌+◌, ◌<◌, ◌≤◌, true, false, List, [], ◌∷◌, ◌++◌, length, map, drop, get_or}
use Rattle.i2c_physics.proofs.Cited.{set, Option, Some, None, refl, sym, ap, ◌∙◌, subst, arith, add-zero, zero-add, ◌==◌, range_with_len}
use Rattle.i2c_physics.proofs.Cited.{ne_eqb, Event, Answer, Table, feed, given, answers, answer_with, feed-same, AreRising, to_those}
use Rattle.i2c_physics.proofs.Cited.{eq_self}
use Rattle.std.proofs.lemmas.List.{at_drop_more}
use Rattle.std.proofs.Math.Seq.{drop-length}
use Rattle.std.proofs.lemmas.List.FromFn.{map-range_with_len_more}
use Rattle.i2c_physics.proofs.NumberLemmas.{rising-apart, rising-drop}

-- one number more
pub listed_more : {X : Type 0} (f : ℕ → X) (n : ℕ) → map f (range_with_len 0 (n + 1)) ≡ map f (range_with_len 0 n) ++ f n ∷ []
listed_more f n = map-range_with_len_more f 0 n n (omega arith)

module _ {X : Type 0} (t : Table X) where
  pub answers-same : (f g : ℕ → Option Event) (k : ℕ) (xs : List X)
      → ((j : ℕ) → k ≤ j → j < k + length xs → g j ≡ f j) → answers t g k xs ≡ answers t f k xs
  answers-same f g k [] same = refl
  answers-same f g k (x ∷ xs) same =
      ap (λ o. answer_with t o k x (answers t g (k + 1) xs)) (same k (omega arith) (omega arith))
      ∙ ap (λ rest. answer_with t (f k) k x rest) (answers-same f g (k + 1) xs (λ j low high. same j (omega arith) (omega arith)))

  pub length-feed : (f : ℕ → Option Event) (k : ℕ) (xs : List X) → length (feed t f k xs) ≡ length xs
  length-feed f k [] = refl
  length-feed f k (x ∷ xs) = ap suc (length-feed f (k + 1) xs)

  fed_at : (f : ℕ → Option Event) (j i : ℕ) (xs : List X) (d : X) → i < length xs
      → get_or (feed t f j xs) i d ≡ given t (f (j + i)) (get_or xs i d)
  fed_at f j i [] d within = absurd (omega arith)
  fed_at f j zero (x ∷ xs) d within = ap (λ k. given t (f k) x) (sym (add-zero j))
  fed_at f j (suc i) (x ∷ xs) d within =
      let e : j + 1 + i ≡ j + suc i = omega arith in
      fed_at f (j + 1) i xs d (omega arith) ∙ ap (λ k. given t (f k) (get_or xs i d)) e

  -- g tells of an event where f tells of none
  fed_more : (f g : ℕ → Option Event) (event : Event) (j i : ℕ) (xs : List X) (d : X) → i < length xs
      → ((k : ℕ) → k ≢ j + i → g k ≡ f k) → g (j + i) ≡ Some event
      → feed t g j xs ≡ set (feed t f j xs) i (t.after (get_or xs i d) event)
  fed_more f g event j i [] d within same some = absurd (omega arith)
  fed_more f g event j zero (x ∷ xs) d within same some =
      let head : g j ≡ Some event = ap g (sym (add-zero j)) ∙ some in
      ap (λ o. given t o x ∷ feed t g (j + 1) xs) head
      ∙ ap (λ rest. t.after x event ∷ rest) (feed-same t f g (j + 1) xs (λ k low high. same k (λ e. absurd (omega (arith, e)))))
  fed_more f g event j (suc i) (x ∷ xs) d within same some =
      let at : j + 1 + i ≡ j + suc i = omega arith in
      ap (λ o. given t o x ∷ feed t g (j + 1) xs) (same j (λ e. absurd (omega (arith, e))))
      ∙ ap (λ rest. given t (f j) x ∷ rest)
      (fed_more f g event (j + 1) i xs d (omega arith) (λ k ne. same k (λ e. ne (e ∙ sym at))) (ap g at ∙ some))

  answered_more : (f g : ℕ → Option Event) (event : Event) (j i : ℕ) (xs : List X) (d : X) → i < length xs
      → ((k : ℕ) → k ≢ j + i → g k ≡ f k) → g (j + i) ≡ Some event → ((k : ℕ) → k < j + i + 1 → f k ≡ None)
      → answers t g j xs ≡ (j + i, t.answer (get_or xs i d) event) ∷ answers t f j xs
  answered_more f g event j i [] d within same some none = absurd (omega arith)
  answered_more f g event j zero (x ∷ xs) d within same some none =
      let head : g j ≡ Some event = ap g (sym (add-zero j)) ∙ some in
      let here : f j ≡ None = none j (omega arith) in
      ap (λ o. answer_with t o j x (answers t g (j + 1) xs)) head
      ∙ ap (λ k. (k, t.answer x event) ∷ answers t g (j + 1) xs) (sym (add-zero j))
      ∙ ap (λ rest. (j + 0, t.answer x event) ∷ rest) (answers-same f g (j + 1) xs (λ k low high. same k (λ e. absurd (omega (arith, e)))))
      ∙ ap (λ o. (j + 0, t.answer x event) ∷ answer_with t o j x (answers t f (j + 1) xs)) (sym here)
  answered_more f g event j (suc i) (x ∷ xs) d within same some none =
      let at : j + 1 + i ≡ j + suc i = omega arith in
      let here : f j ≡ None = none j (omega arith) in
      let head : g j ≡ None = same j (λ e. absurd (omega (arith, e))) ∙ here in
      ap (λ o. answer_with t o j x (answers t g (j + 1) xs)) head
      ∙ answered_more f g event (j + 1) i xs d (omega arith) (λ k ne. same k (λ e. ne (e ∙ sym at))) (ap g at ∙ some)
      (λ k low. none k (omega arith))
      ∙ ap (λ k. (k, t.answer (get_or xs i d) event) ∷ answers t f (j + 1) xs) at
      ∙ ap (λ o. (j + suc i, t.answer (get_or xs i d) event) ∷ answer_with t o j x (answers t f (j + 1) xs)) (sym here)

  -- the target of a number below all others that are told
  module _ (event : Event) (n high : ℕ) (rest : List ℕ) (rising : AreRising (n + 1) high rest) (xs : List X) (d : X)
      (within : n < length xs) where
    other : (k : ℕ) → k ≢ 0 + n → to_those (n ∷ rest) event k ≡ to_those rest event k
    other k ne = let differs : (n == k) ≡ false = ne_eqb n k (λ e. ne (sym e ∙ sym (zero-add n))) in rw differs refl

    this : to_those (n ∷ rest) event (0 + n) ≡ Some event
    this = let same : (n == 0 + n) ≡ true = rw zero-add (eq_self n) in rw same refl

    below : (k : ℕ) → k < 0 + n + 1 → to_those rest event k ≡ None
    below k low = rw (rising-apart (n + 1) high rest rising k (omega (arith, low))) refl

    fed_next : feed t (to_those (n ∷ rest) event) 0 xs ≡ set (feed t (to_those rest event) 0 xs) n (t.after (get_or xs n d) event)
    fed_next = fed_more (to_those rest event) (to_those (n ∷ rest) event) event 0 n xs d within other this

    answered_next : answers t (to_those (n ∷ rest) event) 0 xs ≡ (n, t.answer (get_or xs n d) event) ∷ answers t (to_those rest event) 0 xs
    answered_next =
        answered_more (to_those rest event) (to_those (n ∷ rest) event) event 0 n xs d within other this below
        ∙ ap (λ m. (m, t.answer (get_or xs n d) event) ∷ answers t (to_those rest event) 0 xs) (zero-add n)

    as_before : get_or (feed t (to_those rest event) 0 xs) n d ≡ get_or xs n d
    as_before = fed_at (to_those rest event) 0 n xs d within ∙ ap (λ o. given t o (get_or xs n d)) (below (0 + n) (omega arith))

  nobody : (f : ℕ → Option Event) → ((k : ℕ) → f k ≡ None) → (j : ℕ) (xs : List X) → feed t f j xs ≡ xs
  nobody f none j [] = refl
  nobody f none j (x ∷ xs) = ap (λ o. given t o x ∷ feed t f (j + 1) xs) (none j) ∙ ap (λ rest. x ∷ rest) (nobody f none (j + 1) xs)

  no_answer : (f : ℕ → Option Event) → ((k : ℕ) → f k ≡ None) → (j : ℕ) (xs : List X) → answers t f j xs ≡ []
  no_answer f none j [] = refl
  no_answer f none j (x ∷ xs) = ap (λ o. answer_with t o j x (answers t f (j + 1) xs)) (none j) ∙ no_answer f none (j + 1) xs

  -- nobody is told yet
  pub untold-fed : (event : Event) (numbers : List ℕ) (xs : List X) → xs ≡ feed t (to_those (drop (length numbers) numbers) event) 0 xs
  untold-fed event numbers xs = rw (drop-length numbers) (sym (nobody (to_those [] event) (λ k. refl) 0 xs))

  pub untold-answered : (event : Event) (numbers : List ℕ) (xs : List X)
      → answers t (to_those (drop (length numbers) numbers) event) 0 xs ≡ []
  untold-answered event numbers xs = rw (drop-length numbers) (no_answer (to_those [] event) (λ k. refl) 0 xs)

-- the same of the numbers from k on, of all that are told; the target is read among those that were told so far
module _ (numbers : List ℕ) (j k n high : ℕ) (rising : AreRising 0 high numbers) (one : j ≡ k + 1) (short : k < length numbers)
    (is : n ≡ get_or numbers k 0) where
  same_numbers : drop k numbers ≡ n ∷ drop j numbers
  same_numbers = at_drop_more (λ ns. ns) numbers k 0 short ∙ ap (λ m. m ∷ drop (k + 1) numbers) (sym is)
      ∙ ap (λ i. n ∷ drop i numbers) (sym one)

  front : AreRising 0 high (n ∷ drop j numbers)
  front = subst (AreRising 0 high) same_numbers (rising-drop 0 high k numbers rising)

  pub told-within : n < high
  told-within = front.1

  module _ {X : Type 0} (t : Table X) (event : Event) (xs now : List X) (d : X) (count : high ≡ length xs)
      (fed : now ≡ feed t (to_those (drop j numbers) event) 0 xs) where
    within : n < length xs
    within = omega (arith, told-within, count)

    same_here : get_or now n d ≡ get_or xs n d
    same_here = ap (λ ys. get_or ys n d) fed ∙ as_before t event n high (drop j numbers) front.2 xs d within

    pub told-fed : (y : X) → y ≡ t.after (get_or now n d) event → set now n y ≡ feed t (to_those (drop k numbers) event) 0 xs
    told-fed y made =
        ap (λ ys. set ys n y) fed
        ∙ ap (λ z. set (feed t (to_those (drop j numbers) event) 0 xs) n z) (made ∙ ap (λ x. t.after x event) same_here)
        ∙ sym (fed_next t event n high (drop j numbers) front.2 xs d within)
        ∙ sym (ap (λ ns. feed t (to_those ns event) 0 xs) same_numbers)

    pub told-answered : (a : Answer) → a ≡ t.answer (get_or now n d) event
        → answers t (to_those (drop k numbers) event) 0 xs ≡ (get_or numbers k 0, a) ∷ answers t (to_those (drop j numbers) event) 0 xs
    told-answered a said =
        ap (λ ns. answers t (to_those ns event) 0 xs) same_numbers
        ∙ answered_next t event n high (drop j numbers) front.2 xs d within
        ∙ ap (λ b. (n, b) ∷ answers t (to_those (drop j numbers) event) 0 xs) (sym (said ∙ ap (λ x. t.answer x event) same_here))
        ∙ ap (λ m. (m, a) ∷ answers t (to_those (drop j numbers) event) 0 xs) is
