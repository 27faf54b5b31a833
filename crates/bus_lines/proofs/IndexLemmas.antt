-- Who is at each address. The inductions go over the targets.
use Rattle.bus_lines.proofs.Cited.{◌≡◌, ℕ, zero, suc, ◌+◌, ◌==◌, ◌<◌, ◌≤◌, Bool, true, false, ◌||◌, cond, List, [], ◌∷◌, ◌++◌, length, take}
use Rattle.bus_lines.proofs.Cited.{set, get_or, Some, None, refl, sym, ap, ◌∙◌, subst, arith, slice_get, AllByRecursion, ne_eqb, take_more}
use Rattle.bus_lines.proofs.Cited.{Bit, NodeState, NO_ADDRESS, is_among, AreNumbers, numbers_at, lists_of, IsIndex, or-true, eq_self}
use Rattle.std.proofs.Common.{Vec, append-nil, zero-add}
use Rattle.std.specs.List.{IsDistinct}
use Rattle.std.proofs.lemmas.List.{length-take-le}
use Rattle.bus_lines.specs.Units.{numbers_from}
use Rattle.bus_lines.proofs.AddressLemmas.{same_of}

pub same_tells : (a b : ℕ) → a ≡ b → (a == b) ≡ true
same_tells a b e = subst (λ c. (a == c) ≡ true) e (eq_self a)

kept_behind : (t : Bool) (k n : ℕ) (ns ms : List ℕ) → cond t (k ∷ (ns ++ ms)) (ns ++ ms) ≡ (cond t (k ∷ ns) ns ++ ms)
kept_behind true k n ns ms = refl
kept_behind false k n ns ms = refl

-- one target more
pub numbers_more : (k : ℕ) (bs : List (Bit NodeState)) (b : Bit NodeState) (a : ℕ)
    → numbers_from k (bs ++ b ∷ []) a ≡ numbers_from k bs a ++ cond (a == b.site.addr) ((k + length bs) ∷ []) []
numbers_more k [] b a =
    let e : k ≡ k + 0 = omega arith in
    ap (λ n. cond (a == b.site.addr) (n ∷ []) []) e
numbers_more k (c ∷ bs) b a =
    let e : k + 1 + length bs ≡ k + suc (length bs) = omega arith in
    let more = cond (a == b.site.addr) ((k + suc (length bs)) ∷ []) [] in
    ap (λ ns. cond (a == c.site.addr) (k ∷ ns) ns)
    (numbers_more (k + 1) bs b a ∙ ap (λ n. numbers_from (k + 1) bs a ++ cond (a == b.site.addr) (n ∷ []) []) e)
    ∙ kept_behind (a == c.site.addr) k k (numbers_from (k + 1) bs a) more

pub numbers_step : (bs : List (Bit NodeState)) (i : ℕ) (b : Bit NodeState) (a : ℕ) (t : Bool) → i < length bs → b ≡ get_or bs i b
    → (a == b.site.addr) ≡ t → numbers_at (take (i + 1) bs) a ≡ numbers_at (take i bs) a ++ cond t (i ∷ []) []
numbers_step bs i b a t lt is at =
    let e : 0 + length (take i bs) ≡ i = omega (arith, length-take-le i bs (omega (arith, lt))) in
    ap (λ cs. numbers_at cs a) (take_more bs i b lt ∙ ap (λ (c : Bit NodeState). take i bs ++ c ∷ []) (sym is))
    ∙ numbers_more 0 (take i bs) b a
    ∙ ap (λ n. numbers_at (take i bs) a ++ cond (a == b.site.addr) (n ∷ []) []) e
    ∙ ap (λ u. numbers_at (take i bs) a ++ cond u (i ∷ []) []) at

-- all are numbers of these targets
above_step : (t : Bool) (k high j : ℕ) (ns : List ℕ) (here : Bool) → (j == k) ≡ here → k < high
    → (is_among ns j ≡ true → (k + 1 ≤ j) × (j < high)) → is_among (cond t (k ∷ ns) ns) j ≡ true → (k ≤ j) × (j < high)
above_step true k high j ns true at low rest among = let e = same_of j k at in (omega (arith, e), omega (arith, e, low))
above_step true k high j ns false at low rest among =
    let r = rest (sym (ap (λ b. b || is_among ns j) at) ∙ among) in (omega (arith, r.0), r.1)
above_step false k high j ns here at low rest among = let r = rest among in (omega (arith, r.0), r.1)

numbers_within : (k : ℕ) (bs : List (Bit NodeState)) (a j : ℕ) → is_among (numbers_from k bs a) j ≡ true → (k ≤ j) × (j < k + length bs)
numbers_within k [] a j among = absurd (let e : false ≡ true = among in cc)
numbers_within k (b ∷ bs) a j among =
    above_step (a == b.site.addr) k (k + suc (length bs)) j (numbers_from (k + 1) bs a) (j == k) refl (omega arith)
    (λ rest. let r = numbers_within (k + 1) bs a j rest in (r.0, omega (arith, r.1))) among

apart_below : (k : ℕ) (ns : List ℕ) → ((j : ℕ) → is_among ns j ≡ true → k < j) → AllByRecursion (λ j. (k == j) ≡ false) ns
apart_below k [] above = tt
apart_below k (n ∷ ns) above =
    let here : is_among (n ∷ ns) n ≡ true = ap (λ b. b || is_among ns n) (eq_self n) in (
      ne_eqb k n (λ e. absurd (omega (arith, e, above n here))),
      apart_below k ns (λ j among. above j (ap (λ b. (j == n) || b) among ∙ or-true (j == n))),
    )

distinct_step : (t : Bool) (k : ℕ) (ns : List ℕ) → ((j : ℕ) → is_among ns j ≡ true → k < j) → IsDistinct (λ i m. i == m) ns
    → IsDistinct (λ i m. i == m) (cond t (k ∷ ns) ns)
unfolding IsDistinct
distinct_step true k ns above d = (apart_below k ns above, d)
distinct_step false k ns above d = d

numbers_distinct : (k : ℕ) (bs : List (Bit NodeState)) (a : ℕ) → IsDistinct (λ i m. i == m) (numbers_from k bs a)
unfolding IsDistinct
numbers_distinct k [] a = tt
numbers_distinct k (b ∷ bs) a =
    distinct_step (a == b.site.addr) k (numbers_from (k + 1) bs a)
    (λ j among. let r = numbers_within (k + 1) bs a j among in omega (arith, r.0)) (numbers_distinct (k + 1) bs a)

numbers_are : (bs : List (Bit NodeState)) (a : ℕ) → AreNumbers (length bs) (numbers_at bs a)
numbers_are bs a =
    record {
      apart = numbers_distinct 0 bs a;
      below = λ j among. let r = numbers_within 0 bs a j among in omega (arith, r.1);
    }

not_above : (k : ℕ) (bs : List (Bit NodeState)) (a j : ℕ) (b : Bool) → is_among (numbers_from k bs a) j ≡ b → j < k → b ≡ false
not_above k bs a j true is low = absurd (let r = numbers_within k bs a j is in omega (arith, r.0, low))
not_above k bs a j false is low = refl

first_listed : (t : Bool) (k : ℕ) (ns : List ℕ) → is_among ns k ≡ false → is_among (cond t (k ∷ ns) ns) k ≡ t
first_listed true k ns out = ap (λ b. b || is_among ns k) (eq_self k)
first_listed false k ns out = out

later_listed : (t : Bool) (k j : ℕ) (ns : List ℕ) → (j == k) ≡ false → is_among (cond t (k ∷ ns) ns) j ≡ is_among ns j
later_listed true k j ns other = ap (λ b. b || is_among ns j) other
later_listed false k j ns other = refl

-- each is where its address is
numbers_listed : (k i n : ℕ) (bs : List (Bit NodeState)) (b : Bit NodeState) (a : ℕ) → n ≡ k + i → slice_get bs i ≡ Some b
    → is_among (numbers_from k bs a) n ≡ (a == b.site.addr)
numbers_listed k i n [] b a at is = absurd (let e : None ≡ Some b = is in cc)
numbers_listed k zero n (c ∷ bs) b a at is =
    let same : c ≡ b = (let e : Some c ≡ Some b = is in cc) in
    let e : n ≡ k = omega (arith, at) in
    ap (is_among (cond (a == c.site.addr) (k ∷ numbers_from (k + 1) bs a) (numbers_from (k + 1) bs a))) e
    ∙ first_listed (a == c.site.addr) k (numbers_from (k + 1) bs a)
    (not_above (k + 1) bs a k (is_among (numbers_from (k + 1) bs a) k) refl (omega arith))
    ∙ ap (λ (d : Bit NodeState). a == d.site.addr) same
numbers_listed k (suc i) n (c ∷ bs) b a at is =
    later_listed (a == c.site.addr) k n (numbers_from (k + 1) bs a) (ne_eqb n k (λ e. absurd (omega (arith, e, at))))
    ∙ numbers_listed (k + 1) i n bs b a (omega (arith, at)) is

-- ---- one address more, with nobody there
pub none_more : {Z : Type 0} (at : List (Vec ℕ Z)) (v : Vec ℕ Z) → v.items ≡ [] → ((a : ℕ) → get_or (lists_of at) a [] ≡ []) → (a : ℕ)
    → get_or (lists_of (at ++ v ∷ [])) a [] ≡ []
none_more [] v new none zero = new
none_more [] v new none (suc a) = refl
none_more (x ∷ xs) v new none zero = none 0
none_more (x ∷ xs) v new none (suc a) = none_more xs v new (λ b. none (suc b)) a

-- ---- one number more at one address
lists_get : {Z : Type 0} (at : List (Vec ℕ Z)) (j : ℕ) (v : Vec ℕ Z) → j < length at → v ≡ get_or at j v
    → get_or (lists_of at) j [] ≡ v.items
lists_get {Z = Z} [] j v lt is = absurd (omega (arith, lt))
lists_get {Z = Z} (x ∷ xs) zero v lt is = ap (λ (w : Vec ℕ Z). w.items) (sym is)
lists_get {Z = Z} (x ∷ xs) (suc j) v lt is = lists_get xs j v (omega (arith, lt)) is

lists_here : {Z : Type 0} (at : List (Vec ℕ Z)) (j : ℕ) (v : Vec ℕ Z) → j < length at → get_or (lists_of (set at j v)) j [] ≡ v.items
lists_here [] j v lt = absurd (omega (arith, lt))
lists_here (x ∷ xs) zero v lt = refl
lists_here (x ∷ xs) (suc j) v lt = lists_here xs j v (omega (arith, lt))

lists_elsewhere : {Z : Type 0} (at : List (Vec ℕ Z)) (j a : ℕ) (v : Vec ℕ Z) → (a ≡ j → ⊥) → get_or (lists_of (set at j v)) a [] ≡ get_or
    (lists_of at) a []
lists_elsewhere [] j a v other = refl
lists_elsewhere (x ∷ xs) zero zero v other = absurd (other refl)
lists_elsewhere (x ∷ xs) zero (suc a) v other = refl
lists_elsewhere (x ∷ xs) (suc j) zero v other = refl
lists_elsewhere (x ∷ xs) (suc j) (suc a) v other = lists_elsewhere xs j a v (λ e. other (ap suc e))

pub number_put : {Z : Type 0} (at : List (Vec ℕ Z)) (bs : List (Bit NodeState)) (i j : ℕ) (b : Bit NodeState) (was v : Vec ℕ Z)
    → j < length at
    → j ≡ b.site.addr → i < length bs → b ≡ get_or bs i b → was ≡ get_or at j was → v.items ≡ was.items ++ i ∷ [] → (a : ℕ)
    → get_or (lists_of at) a [] ≡ numbers_at (take i bs) a → (t : Bool) → (a == j) ≡ t
    → get_or (lists_of (set at j v)) a [] ≡ numbers_at (take (i + 1) bs) a
number_put at bs i j b was v low addr lt is old new a listed true here =
    let e : a ≡ j = same_of a j here in
    ap (get_or (lists_of (set at j v)) a) refl ∙ ap (λ n. get_or (lists_of (set at j v)) n []) e ∙ lists_here at j v low ∙ new
    ∙ ap (λ ns. ns ++ i ∷ []) (sym (lists_get at j was low old) ∙ ap (λ n. get_or (lists_of at) n []) (sym e) ∙ listed)
    ∙ sym (numbers_step bs i b a true lt is (ap (λ n. a == n) (sym addr) ∙ here))
number_put at bs i j b was v low addr lt is old new a listed false other =
    lists_elsewhere at j a v (λ e. let no : false ≡ true = sym other ∙ same_tells a j e in cc) ∙ listed
    ∙ sym (numbers_step bs i b a false lt is (ap (λ n. a == n) (sym addr) ∙ other) ∙ append-nil (numbers_at (take i bs) a))

-- a target at no address
pub number_left : (bs : List (Bit NodeState)) (i : ℕ) (b : Bit NodeState) (a : ℕ) → NO_ADDRESS ≤ b.site.addr → i < length bs
    → b ≡ get_or bs i b
    → a < NO_ADDRESS → numbers_at (take i bs) a ≡ numbers_at (take (i + 1) bs) a
number_left bs i b a high lt is low =
    sym (numbers_step bs i b a false lt is (ne_eqb a b.site.addr (λ e. absurd (omega (arith, e, high, low))))
    ∙ append-nil (numbers_at (take i bs) a))

module _ (bs : List (Bit NodeState)) (at : List (List ℕ)) (long : length at ≡ NO_ADDRESS)
    (index_at : (a : ℕ) → a < NO_ADDRESS → get_or at a [] ≡ numbers_at bs a) where
  pub index_is : IsIndex (length bs) at
  index_is =
      record {
        all = long;
        numbers = λ a low. subst (AreNumbers (length bs)) (sym (index_at a low)) (numbers_are bs a);
      }

  pub index_lists : (k : ℕ) (b : Bit NodeState) → slice_get bs k ≡ Some b → (a : ℕ) → a < NO_ADDRESS
      → is_among (get_or at a []) k ≡ (a == b.site.addr)
  index_lists k b is a low =
      ap (λ ns. is_among ns k) (index_at a low) ∙ numbers_listed 0 k k bs b a (sym (zero-add k)) is
