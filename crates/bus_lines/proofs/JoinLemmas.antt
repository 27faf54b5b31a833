-- A loop that goes from the last target back to the first, and reads anew of each whether it is joined.
use Rattle.bus_lines.proofs.Cited.{◌≡◌, ℕ, zero, suc, ◌+◌, ◌<◌, Bool, List, [], ◌∷◌, length, set, get_or, refl, sym, ap, ◌∙◌, arith, Bit}
use Rattle.bus_lines.proofs.Cited.{rejoin_from, NodeState, PlaceView, read_anew, states_on, joins_by, by_number, ◌-◌, ◌≤◌, length-set}

-- what is left to be done: the first n, by number from k on
abbrev pub first_from : {A : Type 0} → (ℕ → A → A) → ℕ → ℕ → List A → List A
first_from f k zero xs = xs
first_from f k (suc n) [] = []
first_from f k (suc n) (x ∷ xs) = f k x ∷ first_from f (k + 1) n xs

pub rejoin_all : (f : ℕ → Bool) (k : ℕ) (bs : List (Bit NodeState))
    → first_from (λ i b. read_anew (f i) b) k (length bs) bs ≡ rejoin_from f k bs
rejoin_all f k [] = refl
rejoin_all f k (b ∷ bs) = ap (λ cs. read_anew (f k) b ∷ cs) (rejoin_all f (k + 1) bs)

-- all of them
pub first_all : {A : Type 0} (f : ℕ → A → A) (k : ℕ) (xs : List A) → first_from f k (length xs) xs ≡ by_number f k xs
first_all f k [] = refl
first_all f k (x ∷ xs) = ap (λ ys. f k x ∷ ys) (first_all f (k + 1) xs)

-- one more is done
next_set : {A : Type 0} (f : ℕ → A → A) (k n i : ℕ) (xs : List A) (d y : A) → i ≡ k + n → n < length xs → y ≡ f i (get_or xs n d)
    → first_from f k n (set xs n y) ≡ first_from f k (suc n) xs
next_set f k n i [] d y at lt is = absurd (omega (arith, lt))
next_set f k zero i (x ∷ xs) d y at lt is = let e : i ≡ k = omega (arith, at) in ap (λ z. z ∷ xs) (is ∙ ap (λ j. f j x) e)
next_set f k (suc n) i (x ∷ xs) d y at lt is = ap (λ ys. f k x ∷ ys) (next_set f (k + 1) n i xs d y (omega (arith, at))
    (omega (arith, lt)) is)

pub next_back : {A : Type 0} (f : ℕ → A → A) (m n : ℕ) (xs : List A) (d y : A) → m ≡ suc n → n < length xs → y ≡ f n (get_or xs n d)
    → first_from f 0 n (set xs n y) ≡ first_from f 0 m xs
next_back f m n xs d y next lt is = next_set f 0 n n xs d y (omega arith) lt is ∙ ap (λ k. first_from f 0 k xs) (sym next)

-- the states stay
pub states_set : (n : ℕ) (bs : List (Bit NodeState)) (d y : Bit NodeState) → y.site.state ≡ (get_or bs n d).site.state
    → states_on (set bs n y) ≡ states_on bs
states_set n [] d y is = refl
states_set zero (b ∷ bs) d y is = ap (λ z. z ∷ states_on bs) is
states_set (suc n) (b ∷ bs) d y is = ap (λ zs. b.site.state ∷ zs) (states_set n bs d y is)

-- the loop: something is made of each by whether it is joined, and the first `left` are left to be done
pub record IsBack (mark : Bool → Bit NodeState → Bit NodeState) (ps : List PlaceView) (old all : List (Bit NodeState)) (left : ℕ)
    (now : List (Bit NodeState)) : Type 0 where
  pub few : left ≤ length now
  pub states : states_on now ≡ states_on old
  pub targets : first_from (λ k b. mark (joins_by ps (states_on old) k) b) 0 left now ≡ all

-- one more is done
pub back_next : (mark : Bool → Bit NodeState → Bit NodeState) → ((j : Bool) (b : Bit NodeState) → (mark j b).site.state ≡ b.site.state)
    → {ps : List PlaceView} {old all now : List (Bit NodeState)} {left : ℕ} → IsBack mark ps old all left now → 0 < left
    → (joined : Bool) → joined ≡ joins_by ps (states_on now) (left - 1) → (d y : Bit NodeState)
    → y ≡ mark joined (get_or now (left - 1) d) → IsBack mark ps old all (left - 1) (set now (left - 1) y)
back_next mark stays {ps} {old} {all} {now} {left} was some joined joins d y is =
    let next : left ≡ suc (left - 1) = omega (arith, some) in
    let lt : left - 1 < length now = omega (arith, some, was.few) in
    let read : joined ≡ joins_by ps (states_on old) (left - 1) = joins ∙ ap (λ xs. joins_by ps xs (left - 1)) was.states in
    record {
      few = omega (arith, was.few, length-set now (left - 1) y);
      states = states_set (left - 1) now d y (ap (λ b. b.site.state) is ∙ stays joined (get_or now (left - 1) d)) ∙ was.states;
      targets = next_back (λ k b. mark (joins_by ps (states_on old) k) b) left (left - 1) now d y next lt
          (is ∙ ap (λ j. mark j (get_or now (left - 1) d)) read) ∙ was.targets;
    }
