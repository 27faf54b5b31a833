-- Shares of the homes: each may open a core, and what is left of all is as of one core. The inductions go over places, over
-- callers and over groups.
use Rattle.bus_groups.proofs.Cited.{◌≡◌, ℕ, zero, suc, ◌+◌, ◌<◌, ◌≤◌, eqb, Bool, true, false, cond, List, [], ◌∷◌, ◌++◌, length, map, take}
use Rattle.bus_groups.proofs.Cited.{drop, get_or, flat_map, sum_by, All, Some, None, refl, sym, ◌∙◌, ap, subst, arith, inl, inr, eq-eqb}
use Rattle.bus_groups.proofs.Cited.{slice_get, range_with_len, AllZip, eqb_tells, length-map, get_or-map, map-append, All-from_get_or}
use Rattle.bus_groups.proofs.Cited.{sum_by-cons, length-range_with_len, get_or-range_with_len, length-map-range_with_len}
use Rattle.bus_groups.proofs.Cited.{get_or-map-range_with_len, get_or_from_slice_get, map_from, map_at, BoardView, root_of, AreDistinct}
use Rattle.bus_groups.proofs.Cited.{roots_of, MayOpen, numbers_in, names, homes_of, caller_home, of_home, cost_of_home, parts_by, MayRun}
use Rattle.bus_groups.proofs.Cited.{Share}
use Rattle.std.proofs.lemmas.Option.{slice_get_within}
use Rattle.i2c_base.proofs.ListLemmas.{there}
use Rattle.i2c_base.specs.declared.caller.Caller.{Ghosts as CallerGhosts}
use Rattle.ports.specs.declared.port.Port.{Ghosts as PortGhosts}
use Rattle.bus_groups.proofs.ShareLemmas.{part-at, of-sum}
use Rattle.bus_groups.proofs.HomeLemmas.{are-homes, range-more}

-- where an element of a part stood ..
pub of-from : {X : Type 0} (hs : List ℕ) (h : ℕ) (xs : List X) (k : ℕ) (y : X) → slice_get (of_home hs h xs) k ≡ Some y → (i : ℕ)
    × (slice_get xs i ≡ Some y) × (slice_get hs i ≡ Some h)
of-from [] h xs k y at = absurd (let f : None ≡ Some y = at in cc)
of-from (j ∷ js) h [] k y at = absurd (let f : None ≡ Some y = at in cc)
of-from {X} (j ∷ js) h (x ∷ xs) k y at =
    elim (eqb_tells j h) [
      | inl same ↦ here k (ap (λ (b : Bool). slice_get (cond b (x ∷ of_home js h xs) (of_home js h xs)) k) (sym same.0) ∙ at) same.1
          (λ n e. of-from js h xs n y e)
      | inr other ↦ (let r = of-from js h xs k y (ap (λ (b : Bool). slice_get (cond b (x ∷ of_home js h xs) (of_home js h xs)) k)
          (sym other.0)
          ∙ at) in (suc r.0, r.1, r.2))
    ]
  where
    here : (k : ℕ) → slice_get (x ∷ of_home js h xs) k ≡ Some y → j ≡ h
        → ((n : ℕ) → slice_get (of_home js h xs) n ≡ Some y → (i : ℕ) × (slice_get xs i ≡ Some y) × (slice_get js i ≡ Some h))
        → (i : ℕ) × (slice_get (x ∷ xs) i ≡ Some y) × (slice_get (j ∷ js) i ≡ Some h)
    here zero e same more = (zero, e, ap (λ (n : ℕ). Some n) same)
    here (suc n) e same more = (let r = more n e in (suc r.0, r.1, r.2))

-- .. and that it stands there
pub of-at : {X : Type 0} (hs : List ℕ) (h : ℕ) (xs : List X) (i : ℕ) (y : X) → slice_get xs i ≡ Some y → slice_get hs i ≡ Some h → (k : ℕ)
    × (slice_get (of_home hs h xs) k ≡ Some y)
of-at [] h xs i y at home = absurd (let f : None ≡ Some h = home in cc)
of-at (j ∷ js) h [] i y at home = absurd (let f : None ≡ Some y = at in cc)
of-at (j ∷ js) h (x ∷ xs) zero y at home =
    let f : Some j ≡ Some h = home in
    let same : j ≡ h = cc in
    (zero, ap (λ (b : Bool). slice_get (cond b (x ∷ of_home js h xs) (of_home js h xs)) zero) (eq-eqb j h same) ∙ at)
of-at (j ∷ js) h (x ∷ xs) (suc i) y at home =
    let r = of-at js h xs i y at home in
    elim (eqb_tells j h) [
      | inl same ↦ (suc r.0, ap (λ (b : Bool). slice_get (cond b (x ∷ of_home js h xs) (of_home js h xs)) (suc r.0)) same.0 ∙ r.1)
      | inr other ↦ (r.0, ap (λ (b : Bool). slice_get (cond b (x ∷ of_home js h xs) (of_home js h xs)) r.0) other.0 ∙ r.1)
    ]

pub map-of : {X Y : Type 0} (f : X → Y) (hs : List ℕ) (h : ℕ) (xs : List X) → map f (of_home hs h xs) ≡ of_home hs h (map f xs)
map-of f [] h xs = refl
map-of f (j ∷ js) h [] = refl
map-of {X} {Y} f (j ∷ js) h (x ∷ xs) = by (eqb j h) ∙ ap (λ (ys : List Y). cond (eqb j h) (f x ∷ ys) ys) (map-of f js h xs)
  where
    by : (b : Bool) → map f (cond b (x ∷ of_home js h xs) (of_home js h xs)) ≡ cond b (f x ∷ map f (of_home js h xs))
        (map f (of_home js h xs))
    by true = refl
    by false = refl

pub of-distinct : (hs : List ℕ) (h : ℕ) (ns : List ℕ) → AreDistinct ns → AreDistinct (of_home hs h ns)
of-distinct [] h ns once = λ i k n at to. absurd (let f : None ≡ Some n = at in cc)
of-distinct (j ∷ js) h [] once = λ i k n at to. absurd (let f : None ≡ Some n = at in cc)
of-distinct (j ∷ js) h (x ∷ xs) once = by (eqb j h) (of-distinct js h xs
    (λ i k n at to. (let e = once (suc i) (suc k) n at to in omega (arith, e))))
    (λ k n at. of-from js h xs k n at)
  where
    with-first : AreDistinct (of_home js h xs) → ((k n : ℕ) → slice_get (of_home js h xs) k ≡ Some n → (i : ℕ) × (slice_get xs i ≡ Some n)
        × (slice_get js i ≡ Some h))
        → (i k n : ℕ) → slice_get (x ∷ of_home js h xs) i ≡ Some n → slice_get (x ∷ of_home js h xs) k ≡ Some n → i ≡ k
    with-first rest from zero zero n at to = refl
    with-first rest from zero (suc k) n at to = (let r = from k n to in let e = once zero (suc r.0) n at r.1 in absurd (omega (arith, e)))
    with-first rest from (suc i) zero n at to = (let r = from i n at in let e = once (suc r.0) zero n r.1 to in absurd (omega (arith, e)))
    with-first rest from (suc i) (suc k) n at to = ap suc (rest i k n at to)

    by : (b : Bool) → AreDistinct (of_home js h xs) → ((k n : ℕ) → slice_get (of_home js h xs) k ≡ Some n
        → (i : ℕ) × (slice_get xs i ≡ Some n)
        × (slice_get js i ≡ Some h))
        → AreDistinct (cond b (x ∷ of_home js h xs) (of_home js h xs))
    by false rest from = rest
    by true rest from = with-first rest from

-- what those of a home have is within what they cost
pub of-cover : {X : Type 0} (f : X → ℕ) (hs : List ℕ) (h : ℕ) (xs : List X) (costs : List ℕ) → length xs ≡ length costs
    → ((i n : ℕ) (x : X) → slice_get costs i ≡ Some n → slice_get xs i ≡ Some x → f x ≤ n) → sum_by f
    (of_home hs h xs) ≤ cost_of_home hs h costs
of-cover f [] h xs costs same le = omega arith
of-cover f (j ∷ js) h [] [] same le = omega arith
of-cover f (j ∷ js) h [] (n ∷ ns) same le = absurd (omega (arith, same))
of-cover f (j ∷ js) h (x ∷ xs) [] same le = absurd (omega (arith, same))
of-cover f (j ∷ js) h (x ∷ xs) (n ∷ ns) same le =
    by (eqb j h) (le 0 n x refl refl) (of-cover f js h xs ns (omega (arith, same)) (λ i m y at to. le (suc i) m y at to))
    (sum_by-cons f x (of_home js h xs)) (sum_by-cons (λ (k : ℕ). k) n (of_home js h ns))
  where
    by : (b : Bool) → f x ≤ n → sum_by f (of_home js h xs) ≤ cost_of_home js h ns
        → sum_by f (x ∷ of_home js h xs) ≡ f x + sum_by f (of_home js h xs)
        → sum_by (λ (k : ℕ). k) (n ∷ of_home js h ns) ≡ n + cost_of_home js h ns
        → sum_by f (cond b (x ∷ of_home js h xs) (of_home js h xs)) ≤ sum_by (λ (k : ℕ). k) (cond b (n ∷ of_home js h ns) (of_home js h ns))
    by true one le mine his = omega (arith, one, le, mine, his)
    by false one le mine his = le

-- the number at a place of a list that counts
pub counts : (ns : List ℕ) (many i n : ℕ) → ns ≡ range_with_len 0 many → slice_get ns i ≡ Some n → (n ≡ i) × (i < many)
counts ns many i n is at =
    let low = slice_get_within ns i n at in
    let len : length ns ≡ many = ap length is ∙ length-range_with_len 0 many in
    let e : n ≡ 0 + i = sym (get_or_from_slice_get ns i n 0 at) ∙ ap (λ (xs : List ℕ). get_or xs i 0) is
    ∙ get_or-range_with_len 0 many i 0 (omega (arith, low, len)) in
    (omega (arith, e), omega (arith, low, len))

get-there : (xs : List ℕ) (i x : ℕ) → i < length xs → get_or xs i 0 ≡ x → slice_get xs i ≡ Some x
get-there xs i x low is = (let t = there xs i low in t.1 ∙ ap (λ (n : ℕ). Some n) (sym (get_or_from_slice_get xs i t.0 0 t.1) ∙ is))

-- a caller's home is the home of what its transfers name
module _ {P C S : Type 0} (p : PortGhosts P) (c : CallerGhosts C S) (b : BoardView) (masks costs : List ℕ) (ports : List (ℕ × P))
    (callers : List (ℕ × C)) (many : ℕ)
    (runs : MayRun p c b masks costs ports callers) (is_many : many ≡ length b.roots) where
  may : MayOpen p c b ports callers (sum_by (λ n. n) costs)
  may = runs.may

  roots : roots_of ports ≡ range_with_len 0 many
  roots = runs.roots ∙ ap (range_with_len 0) (sym is_many)

  abbrev rh : List ℕ
  rh = homes_of many masks

  abbrev ch : List ℕ
  ch = map (caller_home rh) masks

  callers_count : length callers ≡ length costs
  callers_count =
      sym (length-map callers (λ (x : ℕ × C). x.0)) ∙ ap length runs.numbers ∙ length-range_with_len 0 (length masks) ∙ sym runs.costs_count

  -- each share may open a core
  pub may-share : (h : ℕ) → MayOpen p c b (of_home rh h ports) (of_home ch h callers) (cost_of_home ch h costs)
  may-share h =
      let homes = are-homes many masks in
      record {
        distinct = subst AreDistinct (sym (map-of (λ (x : ℕ × C). x.0) ch h callers)) (of-distinct ch h (numbers_in callers) may.distinct);
        below = λ i x at. (let r = of-from ch h callers i x at in may.below r.0 x r.1);
        once = subst AreDistinct (sym (map-of (λ (x : ℕ × P). x.0) rh h ports)) (of-distinct rh h (roots_of ports) may.once);
        idle = λ k x at. (let r = of-from rh h ports k x at in may.idle r.0 x r.1);
        worlds = λ tell k x at. (let r = of-from rh h ports k x at in may.worlds tell r.0 x r.1);
        fair = may.fair;
        untaken = λ i x at. (let r = of-from ch h callers i x at in may.untaken r.0 x r.1);
        home = λ i x at. (let r = of-from ch h callers i x at in may.home r.0 x r.1);
        wired = λ i x rs t at asks bus.
            let r = of-from ch h callers i x at in
            let m = map_from (caller_home rh) masks r.0 h r.2 in
            let does : names m.0 (root_of b t.bus) ≡ true = runs.named r.0 m.0 x rs t m.1 r.1 asks bus in
            let on = may.wired r.0 x rs t r.1 asks bus in
            let count = counts (roots_of ports) many on.place (root_of b t.bus) roots on.here in
            let low : root_of b t.bus < many = (let e = count.0 in let lt = count.1 in omega (arith, e, lt)) in
            let mine : get_or rh (root_of b t.bus) 0 ≡ h = sym (homes.callers m.0 (root_of b t.bus) low does (homes.one r.0 m.0 m.1))
            ∙ m.2 in
            let port = map_from (λ (q : ℕ × P). q.0) ports on.place (root_of b t.bus) on.here in
            let here : slice_get rh on.place ≡ Some h = ap (slice_get rh) (sym count.0)
            ∙ get-there rh (root_of b t.bus) h (let n = homes.count in omega (arith, low, n)) mine in
            let k = of-at rh h ports on.place port.0 port.1 here in
            record { place = k.0; here = map_at (λ (q : ℕ × P). q.0) (of_home rh h ports) k.0 port.0 k.1 ∙ ap (λ (n : ℕ). Some n) port.2 };
        covers = of-cover (λ (x : ℕ × C). c.left (c.script x.1) []) ch h callers costs callers_count runs.covered;
        most = (let le = of-sum (λ (n : ℕ). n) ch h costs in let all = may.most in omega (arith, le, all));
      }

  pub shares-may : (shares : List (Share P C)) → map (λ s. s.ports.items) shares ≡ parts_by rh many ports
      → map (λ s. s.callers.items) shares ≡ parts_by ch many callers
      → map (λ s. s.limit) shares ≡ map (λ h. cost_of_home ch h costs) (range_with_len 0 many)
      → All (λ s. MayOpen p c b s.ports.items s.callers.items s.limit) shares
  shares-may shares ports_of callers_of limits k d low =
      let len : length shares ≡ many = sym (length-map shares (λ s. s.ports.items)) ∙ ap length ports_of
      ∙ length-map-range_with_len (λ h. of_home rh h ports) 0 many in
      let there : k < many = omega (arith, low, len) in
      let ps : (get_or shares k d).ports.items ≡ of_home rh k ports = sym (get_or-map (λ s. s.ports.items) shares k d [] low)
      ∙ ap (λ z. get_or z k []) ports_of ∙ part-at rh many ports k [] there in
      let cs : (get_or shares k d).callers.items ≡ of_home ch k callers = sym (get_or-map (λ s. s.callers.items) shares k d [] low)
      ∙ ap (λ z. get_or z k []) callers_of ∙ part-at ch many callers k [] there in
      let ls : (get_or shares k d).limit ≡ cost_of_home ch k costs =
      sym (get_or-map (λ s. s.limit) shares k d 0 low) ∙ ap (λ z. get_or z k 0) limits
      ∙ get_or-map-range_with_len (λ h. cost_of_home ch h costs) 0 many k k 0 there (omega arith) in
      subst (λ (xs : List (ℕ × P)). MayOpen p c b xs (get_or shares k d).callers.items (get_or shares k d).limit) (sym ps)
      (subst (λ (ys : List (ℕ × C)). MayOpen p c b (of_home rh k ports) ys (get_or shares k d).limit) (sym cs)
      (subst (MayOpen p c b (of_home rh k ports) (of_home ch k callers)) (sym ls) (may-share k)))

pub zip-map : {X Y Z : Type 0} (R : X → Z → Type 0) (f : Y → Z) (xs : List X) (ys : List Y) → AllZip (λ x y. R x (f y)) xs ys
    → AllZip R xs (map f ys)
zip-map R f [] [] are = tt
zip-map R f [] (y ∷ ys) are = absurd are
zip-map R f (x ∷ xs) [] are = absurd are
zip-map R f (x ∷ xs) (y ∷ ys) are = (are.0, zip-map R f xs ys are.1)

pub zip-map-left : {X Y Z : Type 0} (R : Z → Y → Type 0) (f : X → Z) (xs : List X) (ys : List Y) → AllZip (λ x y. R (f x) y) xs ys
    → AllZip R (map f xs) ys
zip-map-left R f [] [] are = tt
zip-map-left R f [] (y ∷ ys) are = absurd are
zip-map-left R f (x ∷ xs) [] are = absurd are
zip-map-left R f (x ∷ xs) (y ∷ ys) are = (are.0, zip-map-left R f xs ys are.1)

pub zip-by : {X : Type 0} (R : X → X → Type 0) (xs ys : List X) → length ys ≡ length xs
    → ((i : ℕ) (d : X) → i < length xs → R (get_or xs i d) (get_or ys i d)) → AllZip R xs ys
zip-by R [] [] same are = tt
zip-by R [] (y ∷ ys) same are = absurd (omega (arith, same))
zip-by R (x ∷ xs) [] same are = absurd (omega (arith, same))
zip-by R (x ∷ xs) (y ∷ ys) same are = (
  are 0 x (omega arith),
  zip-by R xs ys (omega (arith, same))
      (λ i d low. are (suc i) d (omega (arith, low))),
)

-- homes are below the number of roots
pub homes-below : (many : ℕ) (masks : List ℕ) → All (λ h. h < many) (homes_of many masks)
homes-below many masks =
    let homes = are-homes many masks in
    All-from_get_or (λ h. h < many) (homes_of many masks) 0 (λ i low.
    (let n = homes.count in let le = homes.least i (omega (arith, low, n)) in omega (arith, low, n, le)))

pub flat-map-map : {X Y Z : Type 0} (f : Y → List Z) (g : X → Y) (xs : List X) → flat_map f (map g xs) ≡ flat_map (λ x. f (g x)) xs
flat-map-map f g [] = refl
flat-map-map {X} {Y} {Z} f g (x ∷ xs) = ap (λ (zs : List Z). f (g x) ++ zs) (flat-map-map f g xs)

-- what is told of each number of a range, one number further
pub range-told : (f : ℕ → ℕ) (n : ℕ) → map f (range_with_len 0 (n + 1)) ≡ map f (range_with_len 0 n) ++ f n ∷ []
range-told f n = ap (map f) (range-more n) ∙ map-append f (range_with_len 0 n) (n ∷ [])

-- a list that was written whole
pub whole-again : {X : Type 0} (xs ys : List X) (n : ℕ) → length xs ≡ length ys → n ≡ length ys → take n (xs ++ drop (length xs) ys) ≡ xs
whole-again xs ys n same len = ap (λ k. take k (xs ++ drop (length xs) ys)) (len ∙ sym same) ∙ all xs (drop (length xs) ys)
  where
    all : {X : Type 0} (xs ys : List X) → take (length xs) (xs ++ ys) ≡ xs
    all [] ys = refl
    all {X} (x ∷ xs) ys = ap (λ (zs : List X). x ∷ zs) (all xs ys)
