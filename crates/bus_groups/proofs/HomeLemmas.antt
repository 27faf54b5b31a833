-- Homes part the roots as finely as can be. The inductions go over the callers' masks, and over the roots.
use Rattle.bus_groups.proofs.Cited.{◌≡◌, ℕ, zero, suc, ◌+◌, ◌<◌, ◌≤◌, eqb, Bool, true, false, cond, ◌&&◌, ◌||◌, List, [], ◌∷◌, ◌++◌, length}
use Rattle.bus_groups.proofs.Cited.{map, get_or, fold, All, Some, None, refl, sym, ◌∙◌, ap, ap₂, subst, arith, inl, inr, true≢false}
use Rattle.bus_groups.proofs.Cited.{eqb-true, eq-eqb, range_with_len, list_any, eqb_tells, length-map, get_or-map, All-from_get_or}
use Rattle.bus_groups.proofs.Cited.{length-range_with_len, get_or-range_with_len, names, names_home, lower, least_home, brought, homes_of}
use Rattle.bus_groups.proofs.Cited.{caller_home}
use Rattle.std.proofs.Common.{nat_lt, slice_get, ◌⊎◌, ltb-true, ltb-false, lt-ltb, le-ltb}
use Rattle.std.proofs.lemmas.List.Sums.{fold-append}
use Rattle.std.proofs.lemmas.List.Folds.{list_any-append}
use Rattle.bus_groups.specs.Homes.{IsOneMark, AreHomes}
use Rattle.std.proofs.lemmas.Bool.{and_parts, or_right, or_cases}
use Rattle.i2c_base.proofs.ListLemmas.{range_more}

-- some number of a range passes
any-in : (p : ℕ → Bool) (a n : ℕ) → list_any p (range_with_len a n) ≡ true → (r : ℕ) × (a ≤ r) × (r < a + n) × (p r ≡ true)
any-in p a zero h = absurd (true≢false (sym h))
any-in p a (suc n) h =
    elim (or_cases (p a) (list_any p (range_with_len (a + 1) n)) h) [
      | inl is ↦ (a, omega arith, omega arith, is)
      | inr more ↦ (let r = any-in p (a + 1) n more in (r.0, omega (arith, r.1), omega (arith, r.2), r.3))
    ]

in-any : (p : ℕ → Bool) (a n r : ℕ) → a ≤ r → r < a + n → p r ≡ true → list_any p (range_with_len a n) ≡ true
in-any p a zero r low high is = absurd (omega (arith, low, high))
in-any p a (suc n) r low high is =
    elim (eqb_tells a r) [
      | inl same ↦ ap (λ b. b || list_any p (range_with_len (a + 1) n)) (ap p same.1 ∙ is)
      | inr other ↦ or_right (p a) (list_any p (range_with_len (a + 1) n))
          (in-any p (a + 1) n r (omega (arith, low, other.1)) (omega (arith, high)) is)
    ]

module _ (homes : List ℕ) (mask : ℕ) where
  abbrev home : ℕ → ℕ
  home r = get_or homes r 0

  lower-cases : (low r : ℕ) → ((names mask r ≡ true) × (home r < low) × (lower homes mask low r ≡ home r)) ⊎
      ((lower homes mask low r ≡ low) × (names mask r ≡ true → low ≤ home r))
  lower-cases low r = by (names mask r) (nat_lt (home r) low) refl refl
    where
      by : (b c : Bool) → names mask r ≡ b → nat_lt (home r) low ≡ c
          → ((names mask r ≡ true) × (home r < low) × (lower homes mask low r ≡ home r)) ⊎
          ((lower homes mask low r ≡ low) × (names mask r ≡ true → low ≤ home r))
      by true true e f = inl (e, ltb-true _ _ f, ap₂ (λ (b c : Bool). cond (b && c) (home r) low) e f)
      by true false e f = inr (ap₂ (λ (b c : Bool). cond (b && c) (home r) low) e f, λ is. ltb-false _ _ f)
      by false c e f = inr (ap (λ (b : Bool). cond (b && nat_lt (home r) low) (home r) low) e, λ is. absurd (true≢false (sym is ∙ e)))

  -- the least is no more than where one starts ..
  least-start : (low a n : ℕ) → fold (lower homes mask) low (range_with_len a n) ≤ low
  least-start low a zero = omega arith
  least-start low a (suc n) =
      elim (lower-cases low a) [
        | inl y ↦ omega (arith, y.1, y.2, least-start (lower homes mask low a) (a + 1) n)
        | inr x ↦ omega (arith, x.0, least-start (lower homes mask low a) (a + 1) n)
      ]

  -- .. no more than any home that is named ..
  least-of-all : (low a n r : ℕ) → a ≤ r → r < a + n → names mask r ≡ true → fold (lower homes mask) low (range_with_len a n) ≤ home r
  least-of-all low a zero r from below is = absurd (omega (arith, from, below))
  least-of-all low a (suc n) r from below is =
      elim (eqb_tells a r) [
        | inl same ↦ elim (lower-cases low a) [
          | inl y ↦ (let e = ap home same.1 in omega (arith, y.2, e, least-start (lower homes mask low a) (a + 1) n))
          | inr x ↦ (let e = ap home same.1 in let h = x.1 (ap (names mask) same.1 ∙ is) in omega
              (arith, x.0, e, h, least-start (lower homes mask low a) (a + 1) n))
        ]
        | inr other ↦ least-of-all (lower homes mask low a) (a + 1) n r (omega (arith, from, other.1)) (omega (arith, below)) is
      ]

  -- .. and where one starts, or one of these
  least-is : (low a n : ℕ) → (fold (lower homes mask) low (range_with_len a n) ≡ low) ⊎
      ((r : ℕ) × (r < a + n) × (names mask r ≡ true) × (fold (lower homes mask) low (range_with_len a n) ≡ home r))
  least-is low a zero = inl refl
  least-is low a (suc n) =
      elim (least-is (lower homes mask low a) (a + 1) n) [
        | inl same ↦ elim (lower-cases low a) [
          | inl y ↦ inr (a, omega arith, y.0, same ∙ y.2)
          | inr x ↦ inl (same ∙ x.0)
        ]
        | inr one ↦ inr (one.0, omega (arith, one.1), one.2, one.3)
      ]

  -- a caller that names a root whose home is a root has the home of a root that it names
  least-named : (r : ℕ) → r < length homes → names mask r ≡ true → home r < length homes
      → (s : ℕ) × (s < length homes) × (names mask s ≡ true) × (least_home homes mask ≡ home s)
  least-named r there is small =
      elim (least-is (length homes) 0 (length homes)) [
        | inl none ↦ absurd (let le = least-of-all (length homes) 0 (length homes) r (omega arith) (omega (arith, there)) is in omega
            (arith, le, none, small))
        | inr one ↦ (one.0, omega (arith, one.1), one.2, one.3)
      ]

  -- where a home is brought
  abbrev goes : ℕ → ℕ
  goes h = cond (names_home homes mask h) (least_home homes mask) h

  named : (h : ℕ) → names_home homes mask h ≡ true → (r : ℕ) × (r < length homes) × (names mask r ≡ true) × (home r ≡ h)
  named h is =
      let x = any-in (λ r. names mask r && eqb (home r) h) 0 (length homes) is in
      let both = and_parts (names mask x.0) (eqb (home x.0) h) x.3 in
      (x.0, omega (arith, x.2), both.0, eqb-true (home x.0) h both.1)

  is-named : (r : ℕ) → r < length homes → names mask r ≡ true → names_home homes mask (home r) ≡ true
  is-named r there is = in-any (λ s. names mask s && eqb (home s) (home r)) 0 (length homes) r (omega arith) (omega (arith, there))
      (ap₂ (λ (b c : Bool). b && c) is (eq-eqb (home r) (home r) refl))

  goes-cases : (h : ℕ) → ((names_home homes mask h ≡ true) × (goes h ≡ least_home homes mask)) ⊎ (goes h ≡ h)
  goes-cases h = by (names_home homes mask h) refl
    where
      by : (b : Bool) → names_home homes mask h ≡ b → ((names_home homes mask h ≡ true) × (goes h ≡ least_home homes mask)) ⊎ (goes h ≡ h)
      by true e = inl (e, ap (λ (b : Bool). cond b (least_home homes mask) h) e)
      by false e = inr (ap (λ (b : Bool). cond b (least_home homes mask) h) e)

  new-home : (r : ℕ) → r < length homes → get_or (brought homes mask) r 0 ≡ goes (home r)
  new-home r there = get_or-map goes homes r 0 0 there

-- what each caller leaves so: so many homes, none above its root, and each its own
record AreKept (roots : ℕ) (homes : List ℕ) : Type 0 where
  count : length homes ≡ roots
  least : (r : ℕ) → r < roots → get_or homes r 0 ≤ r
  own : (r : ℕ) → r < roots → get_or homes (get_or homes r 0) 0 ≡ get_or homes r 0

first : (roots : ℕ) → AreKept roots (range_with_len 0 roots)
first roots =
    let at : (r : ℕ) → r < roots → get_or (range_with_len 0 roots) r 0 ≡ r = λ r there. get_or-range_with_len 0 roots r 0 there
    ∙ omega arith in
    record {
      count = length-range_with_len 0 roots;
      least = λ r there. let e = at r there in omega (arith, e);
      own = λ r there. ap (λ k. get_or (range_with_len 0 roots) k 0) (at r there);
    }

module _ (roots : ℕ) (homes : List ℕ) (mask : ℕ) (kept : AreKept roots homes) where
  here : (r : ℕ) → r < roots → r < length homes
  here r there = omega (arith, there, kept.count)

  low : (r : ℕ) → r < roots → get_or homes r 0 < roots
  low r there = let le = kept.least r there in omega (arith, le, there)

  -- the caller that names such a home goes under a named root's home, which is no higher
  under : (h : ℕ) → h < roots → names_home homes mask h ≡ true → (s : ℕ) × (s < roots) × (names mask s ≡ true)
      × (least_home homes mask ≡ get_or homes s 0) × (least_home homes mask ≤ h)
  under h small is =
      let r = named homes mask h is in
      let s = least-named homes mask r.0 r.1 r.2 (let e = r.3 in omega (arith, e, small, kept.count)) in
      let le = least-of-all homes mask (length homes) 0 (length homes) r.0 (omega arith) (let lt = r.1 in omega (arith, lt)) r.2 in
      (s.0, (let lt = s.1 in omega (arith, lt, kept.count)), s.2, s.3, (let e = r.3 in omega (arith, le, e)))

  at : (r : ℕ) → r < roots → get_or (brought homes mask) r 0 ≡ goes homes mask (get_or homes r 0)
  at r there = new-home homes mask r (here r there)

  goes-least : (h : ℕ) → h < roots → goes homes mask h ≤ h
  goes-least h small =
      elim (goes-cases homes mask h) [
        | inl is ↦ (let u = under h small is.0 in let e = is.1 in let le = u.4 in omega (arith, e, le))
        | inr same ↦ omega (arith, same)
      ]

  -- where all go under, they stay
  goes-stays : (h : ℕ) → h < roots → get_or homes h 0 ≡ h → get_or (brought homes mask) (goes homes mask h) 0 ≡ goes homes mask h
  goes-stays h small own =
      elim (goes-cases homes mask h) [
        | inl is ↦ (let u = under h small is.0 in
            let to : goes homes mask h ≡ get_or homes u.0 0 = is.1 ∙ u.3 in
            let lt = low u.0 u.1 in
            ap (λ k. get_or (brought homes mask) k 0) to ∙ at (get_or homes u.0 0) lt
            ∙ ap (goes homes mask) (kept.own u.0 u.1)
            ∙ ap (λ (b : Bool). cond b (least_home homes mask) (get_or homes u.0 0)) (is-named homes mask u.0 (here u.0 u.1) u.2)
            ∙ sym is.1)
        | inr same ↦ ap (λ k. get_or (brought homes mask) k 0) same ∙ at h small ∙ ap (goes homes mask) own
      ]

  next : AreKept roots (brought homes mask)
  next =
      record {
        count = length-map homes (goes homes mask) ∙ kept.count;
        least = λ r there. let e = at r there in let le = goes-least (get_or homes r 0) (low r there) in let was =
            kept.least r there in omega (arith, e, le, was);
        own = λ r there. ap (λ k. get_or (brought homes mask) k 0) (at r there) ∙ goes-stays (get_or homes r 0) (low r there)
            (kept.own r there)
            ∙ sym (at r there);
      }

  -- the caller's own roots have one home
  joins : IsOneMark (λ r. get_or (brought homes mask) r 0) roots mask
  joins r s there too is also = under-one r there is ∙ sym (under-one s too also)
    where
      under-one : (k : ℕ) → k < roots → names mask k ≡ true → get_or (brought homes mask) k 0 ≡ least_home homes mask
      under-one k lt named = at k lt ∙ ap (λ (b : Bool). cond b (least_home homes mask) (get_or homes k 0))
          (is-named homes mask k (here k lt) named)

  -- roots of one home stay together
  stay : (r s : ℕ) → r < roots → s < roots → get_or homes r 0 ≡ get_or homes s 0 → get_or (brought homes mask) r 0 ≡ get_or
      (brought homes mask) s 0
  stay r s there too same = at r there ∙ ap (goes homes mask) same ∙ sym (at s too)

  -- what joins the caller's roots doesn't tell a root from its home
  no-finer : (mark : ℕ → ℕ) → IsOneMark mark roots mask → ((r : ℕ) → r < roots → mark (get_or homes r 0) ≡ mark r) → (r : ℕ) → r < roots
      → mark (get_or (brought homes mask) r 0) ≡ mark r
  no-finer mark one was r there =
      elim (goes-cases homes mask (get_or homes r 0)) [
        | inl is ↦ (let n = named homes mask (get_or homes r 0) is.0 in
            let u = under (get_or homes r 0) (low r there) is.0 in
            let lt : n.0 < roots = let k = n.1 in omega (arith, k, kept.count) in
            ap mark (at r there ∙ is.1 ∙ u.3) ∙ was u.0 u.1 ∙ one u.0 n.0 u.1 lt u.2 n.2 ∙ sym (was n.0 lt) ∙ ap mark n.3 ∙ was r there)
        | inr same ↦ ap mark (at r there ∙ same) ∙ was r there
      ]

all-kept : (roots : ℕ) (masks homes : List ℕ) → AreKept roots homes → AreKept roots (fold brought homes masks)
all-kept roots [] homes kept = kept
all-kept roots (m ∷ ms) homes kept = all-kept roots ms (brought homes m) (next roots homes m kept)

all-stay : (roots : ℕ) (masks homes : List ℕ) → AreKept roots homes → (r s : ℕ) → r < roots → s < roots
    → get_or homes r 0 ≡ get_or homes s 0
    → get_or (fold brought homes masks) r 0 ≡ get_or (fold brought homes masks) s 0
all-stay roots [] homes kept r s there too same = same
all-stay roots (m ∷ ms) homes kept r s there too same = all-stay roots ms (brought homes m) (next roots homes m kept) r s there too
    (stay roots homes m kept r s there too same)

all-one : (roots : ℕ) (masks homes : List ℕ) → AreKept roots homes → (i mask : ℕ) → slice_get masks i ≡ Some mask
    → IsOneMark (λ r. get_or (fold brought homes masks) r 0) roots mask
all-one roots [] homes kept i mask at = absurd (let f : None ≡ Some mask = at in cc)
all-one roots (m ∷ ms) homes kept zero mask at =
    λ r s there too is also.
    let e : m ≡ mask = (let f : Some m ≡ Some mask = at in cc) in
    all-stay roots ms (brought homes m) (next roots homes m kept) r s there too
    (joins roots homes m kept r s there too (ap (λ k. names k r) e ∙ is) (ap (λ k. names k s) e ∙ also))
all-one roots (m ∷ ms) homes kept (suc i) mask at = all-one roots ms (brought homes m) (next roots homes m kept) i mask at

all-finest : (roots : ℕ) (masks homes : List ℕ) → AreKept roots homes → (mark : ℕ → ℕ)
    → ((i mask : ℕ) → slice_get masks i ≡ Some mask → IsOneMark mark roots mask)
    → ((r : ℕ) → r < roots → mark (get_or homes r 0) ≡ mark r) → (r : ℕ) → r < roots → mark (get_or (fold brought homes masks) r 0) ≡ mark r
all-finest roots [] homes kept mark ones was = was
all-finest roots (m ∷ ms) homes kept mark ones was =
    all-finest roots ms (brought homes m) (next roots homes m kept) mark (λ i mask at. ones (suc i) mask at)
    (no-finer roots homes m kept mark (ones zero m refl) was)

-- a caller is at the home of its roots
of-caller : (roots : ℕ) (homes : List ℕ) → AreKept roots homes → (mask r : ℕ) → r < roots → names mask r ≡ true
    → IsOneMark (λ k. get_or homes k 0) roots mask → caller_home homes mask ≡ get_or homes r 0
of-caller roots homes kept mask r there is one =
    let s = least-named homes mask r (here roots homes mask kept r there) is
    (let lt = low roots homes mask kept r there in omega (arith, lt, kept.count)) in
    let too : s.0 < roots = let lt = s.1 in omega (arith, lt, kept.count) in
    let e : least_home homes mask ≡ get_or homes r 0 = s.3 ∙ one s.0 r too there s.2 is in
    let small : least_home homes mask < length homes = let lt = low roots homes mask kept r there in omega (arith, e, lt, kept.count) in
    ap (λ (b : Bool). cond b (least_home homes mask) 0) (lt-ltb (least_home homes mask) (length homes) small) ∙ e

pub are-homes : (roots : ℕ) (masks : List ℕ) → AreHomes roots masks (homes_of roots masks)
are-homes roots masks =
    let kept = all-kept roots masks (range_with_len 0 roots) (first roots) in
    record {
      count = kept.count;
      least = kept.least;
      own = kept.own;
      one = all-one roots masks (range_with_len 0 roots) (first roots);
      finest = λ mark ones. all-finest roots masks (range_with_len 0 roots) (first roots) mark ones
          (λ r there. ap mark (get_or-range_with_len 0 roots r 0 there ∙ omega arith));
      callers = of-caller roots (homes_of roots masks) kept;
    }

pub range-more : (n : ℕ) → range_with_len 0 (n + 1) ≡ range_with_len 0 n ++ n ∷ []
range-more n = ap (range_with_len 0) (let e : n + 1 ≡ suc n = omega arith in e) ∙ range_more 0 n
    ∙ ap (λ k. range_with_len 0 n ++ k ∷ []) (omega arith)

pub fold-range : (f : ℕ → ℕ → ℕ) (low n : ℕ) → fold f low (range_with_len 0 (n + 1)) ≡ f (fold f low (range_with_len 0 n)) n
fold-range f low n = ap (fold f low) (range-more n) ∙ fold-append f low (range_with_len 0 n) (n ∷ [])

pub none-range : (p : ℕ → Bool) (n : ℕ) → list_any p (range_with_len 0 n) ≡ false → p n ≡ false
    → list_any p (range_with_len 0 (n + 1)) ≡ false
none-range p n none isnt = ap (list_any p) (range-more n) ∙ list_any-append p (range_with_len 0 n) (n ∷ [])
    ∙ ap₂ (λ b c. b || (c || false)) none isnt

pub some-range : (p : ℕ → Bool) (n many : ℕ) → n < many → p n ≡ true → list_any p (range_with_len 0 many) ≡ true
some-range p n many there is = in-any p 0 many n (omega arith) (omega (arith, there)) is

-- the least home, one root further
pub lower-yes : (homes : List ℕ) (mask low r : ℕ) → names mask r ≡ true → get_or homes r 0 < low → lower homes mask low r ≡ get_or homes r 0
lower-yes homes mask low r is less = ap₂ (λ (b c : Bool). cond (b && c) (get_or homes r 0) low) is (lt-ltb (get_or homes r 0) low less)

pub lower-no : (homes : List ℕ) (mask low r : ℕ) → names mask r ≡ false → lower homes mask low r ≡ low
lower-no homes mask low r isnt = ap (λ (b : Bool). cond (b && nat_lt (get_or homes r 0) low) (get_or homes r 0) low) isnt

pub lower-not : (homes : List ℕ) (mask low r : ℕ) → names mask r ≡ true → low ≤ get_or homes r 0 → lower homes mask low r ≡ low
lower-not homes mask low r is more = ap₂ (λ (b c : Bool). cond (b && c) (get_or homes r 0) low) is (le-ltb (get_or homes r 0) low more)

pub caller-below : (many : ℕ) (homes : List ℕ) (mask : ℕ) → length homes ≡ many → 0 < many → caller_home homes mask < many
caller-below many homes mask len some = by (nat_lt (least_home homes mask) (length homes)) refl
  where
    by : (b : Bool) → nat_lt (least_home homes mask) (length homes) ≡ b → caller_home homes mask < many
    by true e = (let lt = ltb-true (least_home homes mask) (length homes) e in let is =
        ap (λ (x : Bool). cond x (least_home homes mask) 0) e in omega (arith, lt, is, len))
    by false e = (let is = ap (λ (x : Bool). cond x (least_home homes mask) 0) e in omega (arith, is, some))

pub callers-below : (many : ℕ) (masks : List ℕ) → 0 < many → All (λ h. h < many) (map (caller_home (homes_of many masks)) masks)
callers-below many masks some =
    All-from_get_or (λ h. h < many) (map (caller_home (homes_of many masks)) masks) 0
    (λ i low.
    subst (λ h. h < many) (sym (get_or-map (caller_home (homes_of many masks)) masks i 0 0
    (omega (arith, low, length-map masks (caller_home (homes_of many masks))))))
    (caller-below many (homes_of many masks) (get_or masks i 0) (are-homes many masks).count some))
