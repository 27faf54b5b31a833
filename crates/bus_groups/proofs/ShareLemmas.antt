-- A list parted by homes and put together again. The inductions go over the places.
use Rattle.bus_groups.proofs.Cited.{◌≡◌, ℕ, zero, suc, ◌+◌, ◌<◌, ◌≤◌, eqb, Bool, true, false, cond, List, [], ◌∷◌, ◌++◌, length, map, take}
use Rattle.bus_groups.proofs.Cited.{drop, set, get_or, sum_by, All, refl, sym, ◌∙◌, ap, subst, arith, inl, inr, eq-eqb, true≢false, AllZip}
use Rattle.bus_groups.proofs.Cited.{eqb_tells, length-map, get_or-map, length-set, length-append, sum_by-cons, ne_eqb}
use Rattle.bus_groups.proofs.Cited.{length-map-range_with_len, get_or-map-range_with_len, of_home, cost_of_home, parts_by, joined_by}
use Rattle.std.proofs.Common.{◌≢◌}
use Rattle.std.proofs.lemmas.List.{get_or-set_same, get_or-set_other, set-get_or, drop_more, drop_all}
use Rattle.std.proofs.lemmas.List.Elements.{All-tail, All-head}
use Rattle.std.proofs.lemmas.List.FromFn.{fill_by_all}

module _ {X : Type 0} where
  -- a part, one element further
  pub of-more : (homes : List ℕ) (h : ℕ) (xs : List X) (x : X) → length xs < length homes
      → of_home homes h (xs ++ x ∷ []) ≡ cond (eqb (get_or homes (length xs) 0) h) (of_home homes h xs ++ x ∷ []) (of_home homes h xs)
  of-more [] h xs x room = absurd (omega (arith, room))
  of-more (k ∷ ks) h [] x room = by ks
    where
      by : (ks : List ℕ) → of_home (k ∷ ks) h (x ∷ []) ≡ cond (eqb k h) (x ∷ []) []
      by [] = refl
      by (j ∷ js) = refl
  of-more (k ∷ ks) h (y ∷ ys) x room =
      ap (λ (zs : List X). cond (eqb k h) (y ∷ zs) zs) (of-more ks h ys x (omega (arith, room)))
      ∙ both (eqb k h) (eqb (get_or ks (length ys) 0) h) (of_home ks h ys)
    where
      both : (a b : Bool) (zs : List X) → cond a (y ∷ cond b (zs ++ x ∷ []) zs) (cond b (zs ++ x ∷ []) zs) ≡ cond b
          (cond a (y ∷ zs) zs ++ x ∷ [])
          (cond a (y ∷ zs) zs)
      both true true zs = refl
      both true false zs = refl
      both false true zs = refl
      both false false zs = refl

  pub length-of : (homes : List ℕ) (h : ℕ) (xs : List X) → length (of_home homes h xs) ≤ length xs
  length-of [] h xs = omega arith
  length-of (k ∷ ks) h [] = omega arith
  length-of (k ∷ ks) h (x ∷ xs) = by (eqb k h) (length-of ks h xs)
    where
      by : (b : Bool) → length (of_home ks h xs) ≤ length xs → length (cond b (x ∷ of_home ks h xs) (of_home ks h xs)) ≤ length (x ∷ xs)
      by true le = omega (arith, le)
      by false le = omega (arith, le)

  pub part-at : (homes : List ℕ) (many : ℕ) (xs : List X) (h : ℕ) (d : List X) → h < many → get_or
      (parts_by homes many xs) h d ≡ of_home homes h xs
  part-at homes many xs h d there = get_or-map-range_with_len (λ k. of_home homes k xs) 0 many h h d there (omega arith)

  -- the parts, where one of them is set as another list has it and the others agree
  set-parts : (homes ks : List ℕ) (many : ℕ) (xs ys : List X) (h : ℕ) (v : List X) → h < many → v ≡ of_home ks h ys
      → ((j : ℕ) → j ≢ h → of_home homes j xs ≡ of_home ks j ys)
      → set (parts_by homes many xs) h v ≡ parts_by ks many ys
  set-parts homes ks many xs ys h v there is others =
      let len : length (parts_by homes many xs) ≡ many = length-map-range_with_len (λ k. of_home homes k xs) 0 many in
      fill_by_all (λ j. of_home ks j ys) (set (parts_by homes many xs) h v) many [] (length-set (parts_by homes many xs) h v ∙ len)
      (λ j below.
      elim (eqb_tells j h) [
        | inl same ↦ ap (λ k. get_or (set (parts_by homes many xs) h v) k []) same.1
            ∙ get_or-set_same (parts_by homes many xs) h v [] (omega (arith, there, len)) ∙ is ∙ ap (λ k. of_home ks k ys) (sym same.1)
        | inr other ↦ get_or-set_other (parts_by homes many xs) h j v [] other.1 ∙ part-at homes many xs j [] below ∙ others j other.1
      ])

  -- the parts, one element further
  pub parts-more : (homes : List ℕ) (many : ℕ) (xs : List X) (x : X) (h : ℕ) → length xs < length homes → h < many
      → h ≡ get_or homes (length xs) 0
      → set (parts_by homes many xs) h (of_home homes h xs ++ x ∷ []) ≡ parts_by homes many (xs ++ x ∷ [])
  parts-more homes many xs x h room there is =
      set-parts homes homes many xs (xs ++ x ∷ []) h (of_home homes h xs ++ x ∷ []) there
      (sym (of-more homes h xs x room ∙ ap (λ b. cond b (of_home homes h xs ++ x ∷ []) (of_home homes h xs))
      (eq-eqb (get_or homes (length xs) 0) h (sym is))))
      (λ j other. sym (of-more homes j xs x room ∙ ap (λ b. cond b (of_home homes j xs ++ x ∷ []) (of_home homes j xs))
      (off (get_or homes (length xs) 0) j (λ e. other (sym e ∙ sym is)))))
    where
      off : (a b : ℕ) → a ≢ b → eqb a b ≡ false
      off a b isnt = elim (eqb_tells a b) [ inl same ↦ absurd (isnt same.1) | inr other ↦ other.0 ]

  -- what is parted and put together again is as it was
  pub undone : (homes : List ℕ) (xs : List X) (many : ℕ) → length xs ≡ length homes → All (λ h. h < many) homes
      → joined_by homes (parts_by homes many xs) ≡ xs
  undone [] [] many same below = refl
  undone [] (x ∷ xs) many same below = absurd (omega (arith, same))
  undone (k ∷ ks) [] many same below = absurd (omega (arith, same))
  undone (k ∷ ks) (x ∷ xs) many same below =
      let there = All-head (λ h. h < many) k ks below in
      let here : get_or (parts_by (k ∷ ks) many (x ∷ xs)) k [] ≡ x ∷ of_home ks k xs =
      part-at (k ∷ ks) many (x ∷ xs) k [] there ∙ ap (λ b. cond b (x ∷ of_home ks k xs) (of_home ks k xs)) (eq-eqb k k refl) in
      ap (λ zs. take 1 zs ++ joined_by ks (set (parts_by (k ∷ ks) many (x ∷ xs)) k (drop 1 zs))) here
      ∙ ap (λ (zss : List (List X)). x ∷ joined_by ks zss)
      (set-parts (k ∷ ks) ks many (x ∷ xs) xs k (of_home ks k xs) there refl
      (λ j other. ap (λ b. cond b (x ∷ of_home ks j xs) (of_home ks j xs)) (off k j (λ e. other (sym e)))))
      ∙ ap (λ (zs : List X). x ∷ zs) (undone ks xs many (omega (arith, same)) (All-tail (λ h. h < many) k ks below))
    where
      off : (a b : ℕ) → a ≢ b → eqb a b ≡ false
      off a b isnt = elim (eqb_tells a b) [ inl same ↦ absurd (isnt same.1) | inr other ↦ other.0 ]

  -- the next element of a home's part
  pub next-joined : (homes : List ℕ) (i : ℕ) (xss : List (List X)) (h : ℕ) → i < length homes → h ≡ get_or homes i 0
      → joined_by (drop i homes) xss ≡ take 1 (get_or xss h []) ++ joined_by (drop (i + 1) homes) (set xss h (drop 1 (get_or xss h [])))
  next-joined [] i xss h there is = absurd (omega (arith, there))
  next-joined (k ∷ ks) zero xss h there is = ap (λ j. take 1 (get_or xss j []) ++ joined_by ks (set xss j (drop 1 (get_or xss j []))))
      (sym is)
  next-joined (k ∷ ks) (suc i) xss h there is =
      next-joined ks i xss h (omega (arith, there)) is
      ∙ ap (λ n. take 1 (get_or xss h []) ++ joined_by (drop n (k ∷ ks)) (set xss h (drop 1 (get_or xss h []))))
      (let e : suc (i + 1) ≡ suc i + 1 = omega arith in e)

  pub none-left : (xss : List (List X)) (h : ℕ) → get_or xss h [] ≡ [] → set xss h (drop 1 (get_or xss h [])) ≡ xss
  none-left xss h none = ap (λ zs. set xss h (drop 1 zs)) none ∙ ap (set xss h) (sym none) ∙ set-get_or xss h []

  pub first-of : (xs : List X) (x : X) → 0 < length xs → x ≡ get_or xs 0 x → take 1 xs ≡ x ∷ []
  first-of [] x some is = absurd (omega (arith, some))
  first-of (y ∷ ys) x some is = ap (λ z. z ∷ []) (sym is)

pub map-set-at : {X Y : Type 0} (f : X → Y) (xs : List X) (i : ℕ) (x : X) → map f (set xs i x) ≡ set (map f xs) i (f x)
map-set-at f [] i x = refl
map-set-at f (y ∷ ys) zero x = refl
map-set-at {X} {Y} f (y ∷ ys) (suc i) x = ap (λ (zs : List Y). f y ∷ zs) (map-set-at f ys i x)

-- at first all parts are empty
pub all-empty : {X Y : Type 0} (f : Y → List X) (homes : List ℕ) (many : ℕ) (ys : List Y) → length ys ≡ many → All (λ y. f y ≡ []) ys
    → map f ys ≡ parts_by homes many []
all-empty f homes many ys count empty =
    fill_by_all (λ h. of_home homes h []) (map f ys) many [] (length-map ys f ∙ count)
    (λ k below. by f ys k (omega (arith, below, count)) empty ∙ sym (none homes k))
  where
    none : {X : Type 0} (homes : List ℕ) (k : ℕ) → of_home {X = X} homes k [] ≡ []
    none [] k = refl
    none (h ∷ hs) k = refl

    by : {X Y : Type 0} (f : Y → List X) (ys : List Y) (k : ℕ) → k < length ys → All (λ y. f y ≡ []) ys → get_or (map f ys) k [] ≡ []
    by f [] k below empty = absurd (omega (arith, below))
    by f (y ∷ ys) zero below empty = empty 0 y (omega arith)
    by f (y ∷ ys) (suc k) below empty = by f ys k (omega (arith, below)) (All-tail (λ y. f y ≡ []) y ys empty)

-- one more is to come
pub come-room : {X : Type 0} (came items rest all : List X) (x : X) → came ++ items ≡ all → items ≡ x ∷ rest → length came < length all
come-room came items rest all x goes steps =
    let whole : length came + length items ≡ length all = sym (length-append came items) ∙ ap length goes in
    let more = ap length steps in
    omega (arith, whole, more)

-- the part at a home
pub at-part : {X Y : Type 0} (f : Y → List X) (homes : List ℕ) (many : ℕ) (came : List X) (ys : List Y) (h : ℕ) (v : Y)
    → map f ys ≡ parts_by homes many came → length ys ≡ many → h < many → v ≡ get_or ys h v → f v ≡ of_home homes h came
at-part f homes many came ys h v parts count there is =
    ap f is ∙ sym (get_or-map f ys h v [] (omega (arith, there, count))) ∙ ap (λ zss. get_or zss h []) parts
    ∙ part-at homes many came h [] there

pub some-left : (n : ℕ) → eqb n 0 ≡ false → 0 < n
some-left zero e = absurd (true≢false e)
some-left (suc n) e = omega arith

-- what all have, the next one has
pub all-next : {X : Type 0} (P : X → Type 0) (came items rest all : List X) (x : X) → came ++ items ≡ all → items ≡ x ∷ rest → All P all
    → P x
all-next {X} P came items rest all x goes steps has =
    by came (subst (λ (xs : List X). All P (came ++ xs)) steps (subst (λ (xs : List X). All P xs) (sym goes) has))
  where
    by : (came : List X) → All P (came ++ x ∷ rest) → P x
    by [] has = All-head P x rest has
    by (y ∷ ys) has = by ys (All-tail P y (ys ++ x ∷ rest) has)

-- lists that agree place by place
pub zip-more : {X Y : Type 0} (R : X → Y → Type 0) (xs : List X) (ys : List Y) (x : X) (y : Y) → AllZip R xs ys → R x y
    → AllZip R (xs ++ x ∷ []) (ys ++ y ∷ [])
zip-more R [] [] x y are is = (is, tt)
zip-more R [] (b ∷ bs) x y are is = absurd are
zip-more R (a ∷ as_) [] x y are is = absurd are
zip-more R (a ∷ as_) (b ∷ bs) x y are is = (are.0, zip-more R as_ bs x y are.1 is)

pub zip-length : {X Y : Type 0} (R : X → Y → Type 0) (xs : List X) (ys : List Y) → AllZip R xs ys → length xs ≡ length ys
zip-length R [] [] are = refl
zip-length R [] (b ∷ bs) are = absurd are
zip-length R (a ∷ as_) [] are = absurd are
zip-length R (a ∷ as_) (b ∷ bs) are = (let e = zip-length R as_ bs are.1 in omega (arith, e))

-- ---- what those of a home cost

pub of-sum : {X : Type 0} (f : X → ℕ) (hs : List ℕ) (h : ℕ) (xs : List X) → sum_by f (of_home hs h xs) ≤ sum_by f xs
of-sum f [] h xs = omega arith
of-sum f (j ∷ js) h [] = omega arith
of-sum f (j ∷ js) h (x ∷ xs) = by (eqb j h) (of-sum f js h xs) (sum_by-cons f x xs) (sum_by-cons f x (of_home js h xs))
  where
    by : (b : Bool) → sum_by f (of_home js h xs) ≤ sum_by f xs → sum_by f (x ∷ xs) ≡ f x + sum_by f xs
        → sum_by f (x ∷ of_home js h xs) ≡ f x + sum_by f (of_home js h xs)
        → sum_by f (cond b (x ∷ of_home js h xs) (of_home js h xs)) ≤ sum_by f (x ∷ xs)
    by true le all mine = omega (arith, le, all, mine)
    by false le all mine = omega (arith, le, all)

-- those of a home cost no more than all
pub cost_within : (homes costs : List ℕ) (h : ℕ) → cost_of_home homes h costs ≤ sum_by (λ n. n) costs
cost_within homes costs h = of-sum (λ n. n) homes h costs

first-cost : (b : Bool) (k : ℕ) (ks : List ℕ) → sum_by (λ n. n) (cond b (k ∷ ks) ks) ≡ cond b k 0 + sum_by (λ n. n) ks
first-cost true k ks = sum_by-cons (λ n. n) k ks
first-cost false k ks = omega arith

-- one place further
cost-more : (homes costs : List ℕ) (h i : ℕ) → i < length costs → length costs ≡ length homes
    → cost_of_home (drop i homes) h (drop i costs)
    ≡ cond (eqb (get_or homes i 0) h) (get_or costs i 0) 0 + cost_of_home (drop (i + 1) homes) h (drop (i + 1) costs)
cost-more homes costs h i low same =
    ap (λ (ks : List ℕ). cost_of_home ks h (drop i costs)) (drop_more homes i 0 (omega (arith, low, same)))
    ∙ ap (cost_of_home (get_or homes i 0 ∷ drop (i + 1) homes) h) (drop_more costs i 0 low)
    ∙ first-cost (eqb (get_or homes i 0) h) (get_or costs i 0) (of_home (drop (i + 1) homes) h (drop (i + 1) costs))

pub cost_here : (homes costs : List ℕ) (h i : ℕ) → i < length costs → length costs ≡ length homes → get_or homes i 0 ≡ h
    → cost_of_home (drop i homes) h (drop i costs) ≡ get_or costs i 0 + cost_of_home (drop (i + 1) homes) h (drop (i + 1) costs)
cost_here homes costs h i low same is =
    cost-more homes costs h i low same
    ∙ ap (λ b. cond b (get_or costs i 0) 0 + cost_of_home (drop (i + 1) homes) h (drop (i + 1) costs)) (eq-eqb (get_or homes i 0) h is)

pub cost_elsewhere : (homes costs : List ℕ) (h i : ℕ) → i < length costs → length costs ≡ length homes → (get_or homes i 0 ≡ h → ⊥)
    → cost_of_home (drop i homes) h (drop i costs) ≡ cost_of_home (drop (i + 1) homes) h (drop (i + 1) costs)
cost_elsewhere homes costs h i low same other =
    let more = cost-more homes costs h i low same
    ∙ ap (λ b. cond b (get_or costs i 0) 0 + cost_of_home (drop (i + 1) homes) h (drop (i + 1) costs))
    (ne_eqb (get_or homes i 0) h other) in
    omega (arith, more)

-- and after the last place
no-cost : (homes : List ℕ) (h : ℕ) → cost_of_home homes h [] ≡ 0
no-cost [] h = refl
no-cost (k ∷ ks) h = refl

pub cost_over : (homes costs : List ℕ) (h i : ℕ) → length costs ≤ i → cost_of_home (drop i homes) h (drop i costs) ≡ 0
cost_over homes costs h i high = ap (cost_of_home (drop i homes) h) (drop_all i costs high) ∙ no-cost (drop i homes) h
