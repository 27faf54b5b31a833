-- What stands at a place of a list, and what is made of each element of one.
use Rattle.std.proofs.Common.{◌≡◌, ℕ, zero, suc, ◌+◌, ◌<◌, ◌≤◌, List, [], ◌∷◌, ◌++◌, length, map, set, take, get_or, Some, None, refl, sym}
use Rattle.std.proofs.Common.{ap, ◌∙◌, arith, All, Bool, true, false, ◌||◌, subst, drop}
use Rattle.std.specs.Prelude.{slice_get}
use Rattle.std.proofs.lemmas.List.{map-append, length-map, length-take-le, take_more}
use Rattle.std.specs.List.{list_any, range_with_len}
use Rattle.std.proofs.lemmas.Bool.{false_from_ne_true}
use Rattle.std.proofs.lemmas.List.Folds.{list_any_none}
use Rattle.std.proofs.lemmas.List.Elements.{All-get_or}
use Rattle.std.proofs.lemmas.Option.{slice_get-get_or, slice_get_within, get_or_from_slice_get}

-- something stands at a place within the list
pub there : {X : Type 0} (xs : List X) (i : ℕ) → i < length xs → (x : X) × (slice_get xs i ≡ Some x)
there [] i low = absurd (omega (arith, low))
there (x ∷ xs) zero low = (x, refl)
there (x ∷ xs) (suc i) low = there xs i (omega (arith, low))

-- what stands there comes from what the list was made of
pub map_from : {X Y : Type 0} (f : X → Y) (xs : List X) (i : ℕ) (y : Y) → slice_get (map f xs) i ≡ Some y
    → (x : X) × (slice_get xs i ≡ Some x) × (f x ≡ y)
map_from f [] i y h = absurd (let g : None ≡ Some y = h in cc)
map_from f (x ∷ xs) zero y h = (x, refl, (let g : Some (f x) ≡ Some y = h in cc))
map_from f (x ∷ xs) (suc i) y h = map_from f xs i y h

pub map_at : {X Y : Type 0} (f : X → Y) (xs : List X) (i : ℕ) (x : X) → slice_get xs i ≡ Some x → slice_get (map f xs) i ≡ Some (f x)
map_at f [] i x h = absurd (let g : None ≡ Some x = h in cc)
map_at f (y ∷ ys) zero x h = (let g : Some y ≡ Some x = h in let e : y ≡ x = cc in ap (λ (z : _). Some (f z)) e)
map_at f (y ∷ ys) (suc i) x h = map_at f ys i x h

-- what is put at a place stands there, and elsewhere all stays
pub set_here : {X : Type 0} (xs : List X) (i : ℕ) (y : X) → i < length xs → slice_get (set xs i y) i ≡ Some y
set_here [] i y low = absurd (omega (arith, low))
set_here (x ∷ xs) zero y low = refl
set_here (x ∷ xs) (suc i) y low = set_here xs i y (omega (arith, low))

pub set_elsewhere : {X : Type 0} (xs : List X) (i k : ℕ) (x : X) → (k ≡ i → ⊥) → slice_get (set xs i x) k ≡ slice_get xs k
set_elsewhere [] i k x h = refl
set_elsewhere (y ∷ ys) zero zero x h = absurd (h refl)
set_elsewhere (y ∷ ys) zero (suc k) x h = refl
set_elsewhere (y ∷ ys) (suc i) zero x h = refl
set_elsewhere (y ∷ ys) (suc i) (suc k) x h = set_elsewhere ys i k x (λ e. h (ap suc e))

-- what stands at a place of two lists in one
pub get_front : {X : Type 0} (xs ys : List X) (i : ℕ) → i < length xs → slice_get (xs ++ ys) i ≡ slice_get xs i
get_front [] ys i low = absurd (omega (arith, low))
get_front (x ∷ xs) ys zero low = refl
get_front (x ∷ xs) ys (suc i) low = get_front xs ys i (omega (arith, low))

pub get_back : {X : Type 0} (xs ys : List X) (i : ℕ) → slice_get (xs ++ ys) (length xs + i) ≡ slice_get ys i
get_back [] ys i = ap (slice_get ys) (let e : 0 + i ≡ i = omega arith in e)
get_back (x ∷ xs) ys i =
    ap (slice_get (x ∷ (xs ++ ys))) (let e : suc (length xs) + i ≡ suc (length xs + i) = omega arith in e) ∙ get_back xs ys i

pub all_at : {X : Type 0} (P : X → Type 0) (xs : List X) (i : ℕ) (x : X) → All P xs → slice_get xs i ≡ Some x → P x
all_at P xs i x all here = subst P (get_or_from_slice_get xs i x x here) (All-get_or P xs i x (slice_get_within xs i x here) all)

-- a list of nothing, and nothing left of one
pub nil_by_length : {X : Type 0} (xs : List X) → length xs ≡ 0 → xs ≡ []
nil_by_length [] e = refl
nil_by_length (x ∷ xs) e = absurd (omega (arith, e))

pub drop_all : {X : Type 0} (xs : List X) (n : ℕ) → length xs ≤ n → drop n xs ≡ []
drop_all [] zero low = refl
drop_all [] (suc n) low = refl
drop_all (x ∷ xs) zero low = absurd (omega (arith, low))
drop_all (x ∷ xs) (suc n) low = drop_all xs n (omega (arith, low))

pub map_map : {X Y Z : Type 0} (f : Y → Z) (g : X → Y) (xs : List X) → map f (map g xs) ≡ map (λ x. f (g x)) xs
map_map f g [] = refl
map_map {X} {Y} {Z} f g (x ∷ xs) = ap (λ (zs : List Z). f (g x) ∷ zs) (map_map f g xs)

-- a range by its last number
pub range_more : (a n : ℕ) → range_with_len a (suc n) ≡ range_with_len a n ++ (a + n) ∷ []
range_more a zero = ap (λ (x : ℕ). x ∷ []) (let e : a ≡ a + 0 = omega arith in e)
range_more a (suc n) =
    ap (λ (xs : List ℕ). a ∷ xs) (range_more (a + 1) n)
    ∙ ap (λ (x : ℕ). a ∷ range_with_len (a + 1) n ++ x ∷ []) (let e : a + 1 + n ≡ a + suc n = omega arith in e)

-- where a test holds of some element, it stands at a place; and where it holds at none, of none
pub any_found : {X : Type 0} (test : X → Bool) (xs : List X) → list_any test xs ≡ true
    → (i : ℕ) × (x : X) × (slice_get xs i ≡ Some x) × (test x ≡ true)
any_found test [] e = absurd (let f : false ≡ true = e in cc)
any_found {X} test (x ∷ xs) e = by (any_found test xs) (test x) refl
  where
    by : (list_any test xs ≡ true → (i : ℕ) × (y : X) × (slice_get xs i ≡ Some y) × (test y ≡ true)) → (t : Bool) → test x ≡ t
        → (i : ℕ) × (y : X) × (slice_get (x ∷ xs) i ≡ Some y) × (test y ≡ true)
    by rest true here = (0, x, refl, here)
    by rest false other =
        (let r = rest (sym (ap (λ (t : Bool). t || list_any test xs) other) ∙ e) in (suc r.0, r.1, r.2, r.3))

pub any_none : {X : Type 0} (test : X → Bool) (xs : List X) → ((i : ℕ) (x : X) → slice_get xs i ≡ Some x → test x ≡ true → ⊥)
    → list_any test xs ≡ false
any_none test xs none =
    list_any_none test xs
    (λ k d low. false_from_ne_true (test (get_or xs k d)) (none k (get_or xs k d) (slice_get-get_or xs k d low)))

-- so much is made of the first elements, in a list with this room; one more; and how many there are
module _ {X Y : Type 0} (f : X → Y) (xs : List X) where
  pub record AreMade (i : ℕ) (ys : List Y) (len capacity : ℕ) : Type 0 where
    pub made : ys ≡ map f (take i xs)
    pub count : len ≡ i
    pub room : length xs ≤ capacity

  pub one-made
      : (i : ℕ) (ys : List Y) (len capacity : ℕ) → AreMade i ys len capacity → i < length xs → (x : X) → x ≡ get_or xs i x → (y : Y)
      → y ≡ f x → (more : List Y) (new_len new_capacity : ℕ) → more ≡ ys ++ y ∷ [] → new_len ≡ len + 1 → new_capacity ≡ capacity
      → AreMade (i + 1) more new_len new_capacity
  one-made i ys len capacity was low x is y one more new_len new_capacity grown longer same =
      record {
        made =
            grown ∙ ap (λ (z : Y). ys ++ z ∷ []) (one ∙ ap f is) ∙ ap (λ (zs : List Y). zs ++ f (get_or xs i x) ∷ []) was.made
            ∙ sym (map-append f (take i xs) (get_or xs i x ∷ [])) ∙ ap (map f) (sym (take_more xs i x low));
        count = longer ∙ ap (λ n. n + 1) was.count;
        room = rw same was.room;
      }

  pub few-made : (i : ℕ) (ys : List Y) (len capacity most : ℕ) → AreMade i ys len capacity → i ≤ length xs → length xs ≤ most
      → length ys ≤ most
  few-made i ys len capacity most are low few =
      omega (arith, few, low, ap length are.made, length-map (take i xs) f, length-take-le i xs low)
