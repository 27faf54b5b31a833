-- A loop that goes from the last of a list back to its first, and makes one thing of each.
use Rattle.bus_lines.proofs.Cited.{◌≡◌, ℕ, zero, suc, ◌<◌, Bool, ◌||◌, List, [], ◌∷◌, length, map, drop, set, get_or, refl, sym, ap, ◌∙◌}
use Rattle.bus_lines.proofs.Cited.{arith, some_one}

-- what is left to be done: the first n
abbrev pub first_of : {A : Type 0} → (A → A) → ℕ → List A → List A
first_of f zero xs = xs
first_of f (suc n) [] = []
first_of f (suc n) (x ∷ xs) = f x ∷ first_of f n xs

pub first_all : {A : Type 0} (f : A → A) (xs : List A) → first_of f (length xs) xs ≡ map f xs
first_all f [] = refl
first_all f (x ∷ xs) = ap (λ ys. f x ∷ ys) (first_all f xs)

-- one more is done
first_set : {A : Type 0} (f : A → A) (n : ℕ) (xs : List A) (d y : A) → n < length xs → y ≡ f (get_or xs n d)
    → first_of f n (set xs n y) ≡ first_of f (suc n) xs
first_set f n [] d y lt is = absurd (omega (arith, lt))
first_set f zero (x ∷ xs) d y lt is = ap (λ z. z ∷ xs) is
first_set f (suc n) (x ∷ xs) d y lt is = ap (λ ys. f x ∷ ys) (first_set f n xs d y (omega (arith, lt)) is)

pub first_back : {A : Type 0} (f : A → A) (m n : ℕ) (xs : List A) (d y : A) → m ≡ suc n → n < length xs → y ≡ f (get_or xs n d)
    → first_of f n (set xs n y) ≡ first_of f m xs
first_back f m n xs d y next lt is = first_set f n xs d y lt is ∙ ap (λ k. first_of f k xs) (sym next)

-- what is done has one more
some_set : {A : Type 0} (p : A → Bool) (n : ℕ) (xs : List A) (y : A) → n < length xs
    → (p y || some_one p (drop (suc n) xs)) ≡ some_one p (drop n (set xs n y))
some_set p n [] y lt = absurd (omega (arith, lt))
some_set p zero (x ∷ xs) y lt = refl
some_set p (suc n) (x ∷ xs) y lt = some_set p n xs y (omega (arith, lt))

pub some_back : {A : Type 0} (p : A → Bool) (m n : ℕ) (xs : List A) (y : A) → m ≡ suc n → n < length xs
    → (p y || some_one p (drop m xs)) ≡ some_one p (drop n (set xs n y))
some_back p m n xs y next lt = ap (λ k. p y || some_one p (drop k xs)) next ∙ some_set p n xs y lt

pub some_none : {A : Type 0} (p : A → Bool) (xs : List A) → some_one p [] ≡ some_one p (drop (length xs) xs)
some_none p [] = refl
some_none p (x ∷ xs) = some_none p xs
