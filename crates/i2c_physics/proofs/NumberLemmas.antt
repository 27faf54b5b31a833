-- Rising numbers. The inductions go over the numbers.
use Rattle.i2c_physics.proofs.Cited.{◌≡◌, ℕ, zero, suc, ◌+◌, ◌-◌, ◌<◌, ◌≤◌, Bool, true, false, ◌&&◌, ◌||◌, cond, List, [], ◌∷◌, ◌++◌}
use Rattle.i2c_physics.proofs.Cited.{length, drop, refl, sym, ◌∙◌, ap, subst, arith, inl, inr, ◌==◌, filter, list_all, range_with_len}
use Rattle.i2c_physics.proofs.Cited.{ne_eqb, and_parts, eqb_tells, is_among, AreRising, union_of}
use Rattle.std.proofs.lemmas.Bool.{eqb-false}
use Rattle.std.proofs.lemmas.List.{map-id}
use Rattle.std.proofs.lemmas.List.FromFn.{filter_of_map_range_with_len_more}
use Rattle.std.proofs.Math.Bool.{or-false, and-false}

-- one number more
pub filter_more : (p : ℕ → Bool) (n : ℕ) → filter p (range_with_len 0 (n + 1)) ≡ filter p (range_with_len 0 n) ++ cond (p n) (n ∷ []) []
filter_more p n =
    ap (filter p) (sym (map-id (range_with_len 0 (n + 1)))) ∙ filter_of_map_range_with_len_more p (λ k. k) 0 n n (omega arith)
    ∙ ap (λ ns. filter p ns ++ cond (p n) (n ∷ []) []) (map-id (range_with_len 0 n))

-- two tests, one after the other
both_if : (q : ℕ → Bool) (b : Bool) (n : ℕ) (once twice : List ℕ) → filter q once ≡ twice
    → filter q (cond b (n ∷ once) once) ≡ cond (b && q n) (n ∷ twice) twice
both_if q true n once twice e = ap (λ ns. cond (q n) (n ∷ ns) ns) e
both_if q false n once twice e = e

pub filter_both : (p q : ℕ → Bool) (ns : List ℕ) → filter q (filter p ns) ≡ filter (λ k. p k && q k) ns
filter_both p q [] = refl
filter_both p q (n ∷ ns) = both_if q (p n) n (filter p ns) (filter (λ k. p k && q k) ns) (filter_both p q ns)

pub rising-lower : (low below high : ℕ) (ns : List ℕ) → below ≤ low → AreRising low high ns → AreRising below high ns
rising-lower low below high [] le r = tt
rising-lower low below high (n ∷ ns) le r = (omega (arith, r.0), r.1, r.2)

kept_or_not : (p : ℕ → Bool) (b : Bool) (low high n : ℕ) (ns : List ℕ) → low ≤ n → n < high → AreRising (n + 1) high ns
    → AreRising low high (cond b (n ∷ ns) ns)
kept_or_not p true low high n ns at below rest = (at, below, rest)
kept_or_not p false low high n ns at below rest = rising-lower (n + 1) low high ns (omega arith) rest

pub rising-filter : (p : ℕ → Bool) (low high : ℕ) (ns : List ℕ) → AreRising low high ns → AreRising low high (filter p ns)
rising-filter p low high [] r = tt
rising-filter p low high (n ∷ ns) r = kept_or_not p (p n) low high n (filter p ns) r.0 r.1 (rising-filter p (n + 1) high ns r.2)

rising_range : (low high n : ℕ) → low + n ≡ high → AreRising low high (range_with_len low n)
rising_range low high zero e = tt
rising_range low high (suc n) e = (omega arith, omega arith, rising_range (low + 1) high n (omega arith))

pub rising-of_range : (p : ℕ → Bool) (n : ℕ) → AreRising 0 n (filter p (range_with_len 0 n))
rising-of_range p n = rising-filter p 0 n (range_with_len 0 n) (rising_range 0 n n (omega arith))

pub rising-length : (low high : ℕ) (ns : List ℕ) → AreRising low high ns → length ns ≤ high - low
rising-length low high [] r = omega arith
rising-length low high (n ∷ ns) r = omega (arith, rising-length (n + 1) high ns r.2, r.0, r.1)

pub rising-drop : (low high k : ℕ) (ns : List ℕ) → AreRising low high ns → AreRising low high (drop k ns)
rising-drop low high zero ns r = r
rising-drop low high (suc k) [] r = r
rising-drop low high (suc k) (n ∷ ns) r = rising-lower (n + 1) low high (drop k ns) (omega (arith, r.0)) (rising-drop (n + 1) high k ns r.2)

-- who is among rising numbers
pub rising-apart : (low high : ℕ) (ns : List ℕ) → AreRising low high ns → (k : ℕ) → k < low → is_among ns k ≡ false
rising-apart low high [] r k lower = refl
rising-apart low high (n ∷ ns) r k lower =
    let differs : (n == k) ≡ false = ne_eqb n k (λ e. absurd (omega (arith, e, r.0))) in
    rw differs (rising-apart (n + 1) high ns r.2 k (omega (arith, r.0)))

among_same : (p : ℕ → Bool) (b : Bool) (n k : ℕ) (ns kept : List ℕ) → p n ≡ b → is_among kept k ≡ (is_among ns k && p k)
    → (n == k) ≡ true → n ≡ k → is_among (cond b (n ∷ kept) kept) k ≡ (((n == k) || is_among ns k) && p k)
among_same p true n k ns kept is rest same e = let now : p k ≡ true = ap p (sym e) ∙ is in rw (same, now) refl
among_same p false n k ns kept is rest same e =
    let now : p k ≡ false = ap p (sym e) ∙ is in
    rest ∙ rw (same, now) (and-false (is_among ns k))

among_other : (p : ℕ → Bool) (b : Bool) (n k : ℕ) (ns kept : List ℕ) → is_among kept k ≡ (is_among ns k && p k)
    → (n == k) ≡ false → is_among (cond b (n ∷ kept) kept) k ≡ (((n == k) || is_among ns k) && p k)
among_other p true n k ns kept rest other = rw other rest
among_other p false n k ns kept rest other = rw other rest

among_if : (p : ℕ → Bool) (b : Bool) (n k : ℕ) (ns kept : List ℕ) → p n ≡ b → is_among kept k ≡ (is_among ns k && p k)
    → is_among (cond b (n ∷ kept) kept) k ≡ (((n == k) || is_among ns k) && p k)
among_if p b n k ns kept is rest =
    elim (eqb_tells n k) [
      | inl x ↦ among_same p b n k ns kept is rest x.0 x.1
      | inr x ↦ among_other p b n k ns kept rest x.0
    ]

pub among-filter : (p : ℕ → Bool) (ns : List ℕ) (k : ℕ) → is_among (filter p ns) k ≡ (is_among ns k && p k)
among-filter p [] k = refl
among-filter p (n ∷ ns) k = among_if p (p n) n k ns (filter p ns) refl (among-filter p ns k)

pub filter-among : (p : ℕ → Bool) (ns : List ℕ) (k : ℕ) → is_among (filter p ns) k ≡ true → (is_among ns k ≡ true) × (p k ≡ true)
filter-among p ns k among = and_parts (is_among ns k) (p k) (sym (among-filter p ns k) ∙ among)

among_from : (low n k : ℕ) → low ≤ k → k < low + n → is_among (range_with_len low n) k ≡ true
among_from low zero k at below = absurd (omega arith)
among_from low (suc n) k at below =
    elim (eqb_tells low k) [
      | inl x ↦ rw x.0 refl
      | inr x ↦ rw x.0 (among_from (low + 1) n k (omega (arith, x.1)) (omega arith))
    ]

pub among-range : (n k : ℕ) → k < n → is_among (range_with_len 0 n) k ≡ true
among-range n k below = among_from 0 n k (omega arith) (omega arith)

-- those of a range that are among rising numbers of it are these numbers
filter_same : (p q : ℕ → Bool) (low n : ℕ) → ((k : ℕ) → low ≤ k → p k ≡ q k)
    → filter p (range_with_len low n) ≡ filter q (range_with_len low n)
filter_same p q low zero same = refl
filter_same p q low (suc n) same =
    ap (λ b. cond b (low ∷ filter p (range_with_len (low + 1) n)) (filter p (range_with_len (low + 1) n))) (same low (omega arith))
    ∙ ap (λ ns. cond (q low) (low ∷ ns) ns) (filter_same p q (low + 1) n (λ k at. same k (omega arith)))

none_among : (low n : ℕ) → filter (is_among []) (range_with_len low n) ≡ []
none_among low zero = refl
none_among low (suc n) = none_among (low + 1) n

above : (low m : ℕ) → low ≤ m → (low == m) ≡ false → low < m
above low m at other = omega (arith, at, λ (e : low ≡ m). eqb-false low m other e)

at_first : (low high n m : ℕ) (ms : List ℕ) → AreRising low high (m ∷ ms) → low + suc n ≡ high → low ≡ m
    → filter (is_among ms) (range_with_len (low + 1) n) ≡ ms → filter (is_among (m ∷ ms)) (range_with_len low (suc n)) ≡ m ∷ ms
at_first low high n m ms r e same rest =
    let here : (m == low) ≡ true = elim (eqb_tells m low) [ inl x ↦ x.0 | inr x ↦ absurd (x.1 (sym same)) ] in
    let later : filter (is_among (m ∷ ms)) (range_with_len (low + 1) n) ≡ ms =
    filter_same (is_among (m ∷ ms)) (is_among ms) (low + 1) n
    (λ k at. let other : (m == k) ≡ false = ne_eqb m k (λ f. absurd (omega (arith, f, same))) in rw other refl) ∙ rest in
    rw (here, later) (ap (λ k. k ∷ ms) same)

first_among : (low high n m : ℕ) (ms : List ℕ) → AreRising low high (m ∷ ms) → low + suc n ≡ high
    → filter (is_among (m ∷ ms)) (range_with_len (low + 1) n) ≡ m ∷ ms → (low == m) ≡ false
    → filter (is_among (m ∷ ms)) (range_with_len low (suc n)) ≡ m ∷ ms
first_among low high n m ms r e rest other =
    let out : is_among (m ∷ ms) low ≡ false = rising-apart m high (m ∷ ms) (omega arith, r.1, r.2) low (above low m r.0 other) in
    rw out rest

among_itself : (low high n : ℕ) (ns : List ℕ) → AreRising low high ns → low + n ≡ high → filter (is_among ns) (range_with_len low n) ≡ ns
among_itself low high n [] r e = none_among low n
among_itself low high zero (m ∷ ms) r e = absurd (omega (arith, r.0, r.1))
among_itself low high (suc n) (m ∷ ms) r e =
    elim (eqb_tells low m) [
      | inl same ↦ at_first low high n m ms r e same.1
          (among_itself (low + 1) high n ms (subst (λ k. AreRising (k + 1) high ms) (sym same.1) r.2) (omega arith))
      | inr other ↦ first_among low high n m ms r e
          (among_itself (low + 1) high n (m ∷ ms) (omega (arith, above low m r.0 other.0), r.1, r.2) (omega arith)) other.0
    ]

pub either_none : (count : ℕ) (none ns : List ℕ) → length none ≡ 0 → AreRising 0 count ns → ns ≡ union_of count none ns
either_none count [] ns empty r = sym (among_itself 0 count count ns r (omega arith))
either_none count (n ∷ none) ns empty r = absurd (omega arith)

or_has : (ns ms : List ℕ) → list_all (is_among ns) ms ≡ true → (k : ℕ) → (is_among ns k || is_among ms k) ≡ is_among ns k
or_has ns [] all k = or-false (is_among ns k)
or_has ns (m ∷ ms) all k =
    let both = and_parts (is_among ns m) (list_all (is_among ns) ms) all in
    elim (eqb_tells m k) [
      | inl same ↦ (let in_ns : is_among ns k ≡ true = ap (is_among ns) (sym same.1) ∙ both.0 in rw in_ns refl)
      | inr other ↦ rw other.0 (or_has ns ms both.1 k)
    ]

pub either_has : (count : ℕ) (ns ms : List ℕ) → AreRising 0 count ns → list_all (is_among ns) ms ≡ true → union_of count ns ms ≡ ns
either_has count ns ms r all =
    filter_same (λ k. is_among ns k || is_among ms k) (is_among ns) 0 count (λ k at. or_has ns ms all k)
    ∙ among_itself 0 count count ns r (omega arith)
