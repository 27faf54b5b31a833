-- What an index by address has at an address, and what one number more makes of it. The inductions go over the addresses.
use Rattle.i2c_physics.proofs.Cited.{◌≡◌, ◌≢◌, ℕ, zero, suc, ◌+◌, ◌<◌, ◌≤◌, Bool, true, false, cond, List, [], ◌∷◌, ◌++◌, length, map}
use Rattle.i2c_physics.proofs.Cited.{get_or, set, Some, None, append-nil, refl, sym, ap, ◌∙◌, arith, add-zero, zero-add, range_with_len}
use Rattle.i2c_physics.proofs.Cited.{option_map_or, ne_eqb, length-map, get_or-map, length-range_with_len, slice_get-get_or, has_address}
use Rattle.i2c_physics.proofs.Cited.{PlaceView, has_at, numbers_at, numbers_below, eq_self}
use Rattle.std.proofs.lemmas.List.{map-set}
use Rattle.std.proofs.lemmas.List.FromFn.{get_or-map-range_with_len}
use Rattle.i2c_physics.specs.Sites.{IsIndex}
use Rattle.i2c_physics.proofs.NumberLemmas.{filter_more, rising-length, rising-of_range}

pub length-at : (places : List PlaceView) (a : ℕ) → length (numbers_at places a) ≤ length places
length-at places a = omega (
  arith,
  rising-length 0 (length places) (numbers_at places a)
      (rising-of_range (λ k. has_at a places k) (length places)),
)

module _ {V : Type 0} (numbers : V → List ℕ) (f : ℕ → List ℕ) (at : List V) (listed : map numbers at ≡ map f (range_with_len 0 128)) where
  length-listed : length at ≡ 128
  length-listed =
      sym (length-map at numbers) ∙ ap length listed ∙ length-map (range_with_len 0 128) f ∙ length-range_with_len 0 128

  pub get-listed : (a : ℕ) → a < 128 → (v : V) → v ≡ get_or at a v → numbers v ≡ f a
  get-listed a low v is =
      ap numbers is ∙ sym (get_or-map numbers at a v (numbers v) (omega (arith, low, length-listed)))
      ∙ ap (λ ls. get_or ls a (numbers v)) listed
      ∙ get_or-map-range_with_len f 0 128 a a (numbers v) low (zero-add a)

pub listed-at
    : {V : Type 0} (numbers : V → List ℕ) (places : List PlaceView) (at : List V) → IsIndex places (map numbers at) → (a : ℕ) → a < 128
    → (v : V) → v ≡ get_or at a v → numbers v ≡ numbers_at places a
listed-at numbers places at index = get-listed numbers (numbers_at places) at index.listed

-- lists that differ at one address
same_lists : (f g : ℕ → List ℕ) (j n : ℕ) → ((k : ℕ) → j ≤ k → g k ≡ f k) → map f (range_with_len j n) ≡ map g (range_with_len j n)
same_lists f g j zero same = refl
same_lists f g j (suc n) same =
    ap (λ l. l ∷ map f (range_with_len (j + 1) n)) (sym (same j (omega arith)))
    ∙ ap (λ ls. g j ∷ ls) (same_lists f g (j + 1) n (λ k low. same k (omega (arith, low))))

one_list : (f g : ℕ → List ℕ) (j n i : ℕ) → i < n → ((k : ℕ) → k ≢ j + i → g k ≡ f k)
    → set (map f (range_with_len j n)) i (g (j + i)) ≡ map g (range_with_len j n)
one_list f g j zero i low same = absurd (omega arith)
one_list f g j (suc n) zero low same =
    ap (λ k. g k ∷ map f (range_with_len (j + 1) n)) (add-zero j)
    ∙ ap (λ ls. g j ∷ ls) (same_lists f g (j + 1) n (λ k above. same k (λ e. absurd (omega (arith, e, above)))))
one_list f g j (suc n) (suc i) low same =
    let at : j + 1 + i ≡ j + suc i = omega arith in
    ap (λ l. l ∷ set (map f (range_with_len (j + 1) n)) i (g (j + suc i))) (sym (same j (λ e. absurd (omega (arith, e)))))
    ∙ ap (λ k. g j ∷ set (map f (range_with_len (j + 1) n)) i (g k)) (sym at)
    ∙ ap (λ ls. g j ∷ ls) (one_list f g (j + 1) n i (omega (arith, low)) (λ k ne. same k (λ e. ne (e ∙ sym at))))

-- the next number, of the target of this place
module _ (places : List PlaceView) (n : ℕ) (p : PlaceView) (low : n < length places) (is : p ≡ get_or places n p) where
  has_here : (a : ℕ) → has_at a places n ≡ has_address a p.addr
  has_here a =
      ap (λ o. option_map_or (λ (q : PlaceView). has_address a q.addr) o false)
      (slice_get-get_or places n p low ∙ ap Some (sym is))

  one_more : (a : ℕ) (has : Bool) → has_address a p.addr ≡ has
      → numbers_below places (n + 1) a ≡ numbers_below places n a ++ cond has (n ∷ []) []
  one_more a has e =
      filter_more (λ k. has_at a places k) n ∙ ap (λ b. numbers_below places n a ++ cond b (n ∷ []) []) (has_here a ∙ e)

  not_here : (a : ℕ) → has_address a p.addr ≡ false → numbers_below places (n + 1) a ≡ numbers_below places n a
  not_here a e = one_more a false e ∙ append-nil (numbers_below places n a)

  pub listed-nowhere : p.addr ≡ None
      → map (numbers_below places n) (range_with_len 0 128) ≡ map (numbers_below places (n + 1)) (range_with_len 0 128)
  listed-nowhere none =
      same_lists (numbers_below places n) (numbers_below places (n + 1)) 0 128 (λ k above. not_here k (ap (has_address k) none))

  module _ {V : Type 0} (numbers : V → List ℕ) (at : List V) (listed : map numbers at ≡ map (numbers_below places n) (range_with_len 0 128))
      (a : ℕ) (some : p.addr ≡ Some a) (within : a < 128) where
    elsewhere : (k : ℕ) → k ≢ 0 + a → numbers_below places (n + 1) k ≡ numbers_below places n k
    elsewhere k ne = not_here k (ap (has_address k) some ∙ ne_eqb a k (λ e. ne (sym e ∙ sym (zero-add a))))

    pub listed-here : (v w : V) → v ≡ get_or at a v → numbers w ≡ numbers v ++ n ∷ []
        → map numbers (set at a w) ≡ map (numbers_below places (n + 1)) (range_with_len 0 128)
    listed-here v w was grown =
        let here : numbers w ≡ numbers_below places (n + 1) (0 + a) =
        grown ∙ ap (λ ns. ns ++ n ∷ []) (get-listed numbers (numbers_below places n) at listed a within v was)
        ∙ sym (one_more a true (ap (has_address a) some ∙ eq_self a)) ∙ ap (numbers_below places (n + 1)) (sym (zero-add a)) in
        map-set numbers at a w ∙ ap (λ ls. set ls a (numbers w)) listed
        ∙ ap (set (map (numbers_below places n) (range_with_len 0 128)) a) here
        ∙ one_list (numbers_below places n) (numbers_below places (n + 1)) 0 128 a within elsewhere
