-- The AND of what some of a list give, by their numbers, as a loop over the numbers makes it. The inductions go over the list, and over
-- the numbers.
use Rattle.bus_lines.proofs.Cited.{◌≡◌, ℕ, zero, suc, ◌+◌, ◌<◌, ◌==◌, Bool, true, false, ◌||◌, cond, List, [], ◌∷◌, length, map, drop, set}
use Rattle.bus_lines.proofs.Cited.{get_or, Some, refl, sym, ap, ◌∙◌, subst, arith, bit_and, slice_get, and_self, ne_eqb}
use Rattle.bus_lines.proofs.Cited.{and_all, is_among, by_number, and_by, given_by, eq_self}
use Rattle.std.proofs.lemmas.Grind.{common_steps}
use Rattle.std.specs.List.{IsDistinct}
use Rattle.std.proofs.lemmas.Nat.{and_comm, and_assoc}
use Rattle.bus_lines.proofs.NumberedLemmas.{IsTold, told_next, first_apart, first_out, rest_apart}

-- ---- all ones
pub byte_ones : (n : ℕ) → n < 256 → bit_and 255 n ≡ n
byte_ones n small = grind (arith, common_steps)

-- one that is ANDed with all ones besides
ones_inside : (a b : ℕ) → bit_and 255 b ≡ b → bit_and 255 (bit_and a b) ≡ bit_and a b
ones_inside a b ones =
    sym (and_assoc b 255 a) ∙ ap (λ x. bit_and x b) (and_comm 255 a) ∙ and_assoc b a 255 ∙ ap (bit_and a) ones

ones_first : (a b : ℕ) → bit_and 255 b ≡ b → bit_and (bit_and 255 a) b ≡ bit_and a b
ones_first a b ones = and_assoc b 255 a ∙ ones_inside a b ones

and_ones : {A : Type 0} (q : ℕ → A → ℕ) (k : ℕ) (xs : List A) → bit_and 255 (and_by q k xs) ≡ and_by q k xs
and_ones q k [] = and_self 255
and_ones q k (x ∷ xs) = ones_inside (q k x) (and_by q (k + 1) xs) (and_ones q (k + 1) xs)

-- what is the same but for that
and_same : {A : Type 0} (p q : ℕ → A → ℕ) (k : ℕ) (xs : List A) → ((i : ℕ) (x : A) → bit_and 255 (p i x) ≡ bit_and 255 (q i x))
    → and_by p k xs ≡ and_by q k xs
and_same p q k [] same = refl
and_same p q k (x ∷ xs) same =
    let rest = and_by p (k + 1) xs in
    sym (ones_first (p k x) rest (and_ones p (k + 1) xs)) ∙ ap (λ a. bit_and a rest) (same k x)
    ∙ ones_first (q k x) rest (and_ones p (k + 1) xs) ∙ ap (bit_and (q k x)) (and_same p q (k + 1) xs same)

pub and_nobody : {A : Type 0} (q : A → ℕ) (k : ℕ) (xs : List A) → and_by (given_by [] q) k xs ≡ 255
and_nobody q k [] = refl
and_nobody q k (x ∷ xs) = ap (bit_and 255) (and_nobody q (k + 1) xs) ∙ and_self 255

and_after : {A : Type 0} (q : ℕ → A → ℕ) (f : ℕ → A → A) (k : ℕ) (xs : List A) → and_by q k (by_number f k xs) ≡ and_by
    (λ j x. q j (f j x)) k xs
and_after q f k [] = refl
and_after q f k (x ∷ xs) = ap (bit_and (q k (f k x))) (and_after q f (k + 1) xs)

-- one list beside another
and_four : (a b c d : ℕ) → bit_and (bit_and a b) (bit_and c d) ≡ bit_and (bit_and c a) (bit_and b d)
and_four a b c d =
    sym (and_assoc d (bit_and a b) c) ∙ ap (λ x. bit_and x d) (and_comm (bit_and a b) c ∙ sym (and_assoc b c a))
    ∙ and_assoc d (bit_and c a) b

and_both : {A : Type 0} (p q : ℕ → A → ℕ) (k : ℕ) (xs : List A)
    → bit_and (and_by p k xs) (and_by q k xs) ≡ and_by (λ j x. bit_and (q j x) (p j x)) k xs
and_both p q k [] = and_self 255
and_both p q k (x ∷ xs) =
    and_four (p k x) (and_by p (k + 1) xs) (q k x) (and_by q (k + 1) xs) ∙ ap (bit_and (bit_and (q k x) (p k x))) (and_both p q (k + 1) xs)

-- ---- one alone
and_above : {A : Type 0} (q : A → ℕ) (n k : ℕ) (xs : List A) → n < k → and_by (λ j x. cond (j == n) (q x) 255) k xs ≡ 255
and_above q n k [] lt = refl
and_above q n k (x ∷ xs) lt =
    let other : (k == n) ≡ false = ne_eqb k n (λ e. absurd (omega (arith, e, lt))) in
    ap (λ b. bit_and (cond b (q x) 255) (and_by (λ j y. cond (j == n) (q y) 255) (k + 1) xs)) other
    ∙ ap (bit_and 255) (and_above q n (k + 1) xs (omega (arith, lt))) ∙ and_self 255

and_from : {A : Type 0} (q : A → ℕ) (n k i : ℕ) (xs : List A) (d : A) → n ≡ k + i → i < length xs
    → bit_and 255 (q (get_or xs i d)) ≡ and_by (λ j x. cond (j == n) (q x) 255) k xs
and_from q n k i [] d at lt = absurd (omega (arith, lt))
and_from q n k zero (x ∷ xs) d at lt =
    let e : k ≡ n = omega (arith, at) in
    let here : (k == n) ≡ true = subst (λ m. (k == m) ≡ true) e (eq_self k) in
    and_comm 255 (q x) ∙ ap (bit_and (q x)) (sym (and_above q n (k + 1) xs (omega (arith, at))))
    ∙ ap (λ b. bit_and (cond b (q x) 255) (and_by (λ j y. cond (j == n) (q y) 255) (k + 1) xs)) (sym here)
and_from q n k (suc i) (x ∷ xs) d at lt =
    let other : (k == n) ≡ false = ne_eqb k n (λ e. absurd (omega (arith, e, at))) in
    let rest = and_by (λ j y. cond (j == n) (q y) 255) (k + 1) xs in
    and_from q n (k + 1) i xs d (omega (arith, at)) (omega (arith, lt))
    ∙ sym (and_ones (λ j y. cond (j == n) (q y) 255) (k + 1) xs)
    ∙ ap (λ b. bit_and (cond b (q x) 255) rest) (sym other)

-- ---- of some numbers, before each was told
abbrev pub told_and : {A : Type 0} → (A → A) → (A → ℕ) → ℕ → List ℕ → List A → ℕ
told_and f q sofar [] xs = sofar
told_and f q sofar (n ∷ ns) xs =
    told_and f q (bit_and (and_by (λ j x. cond (j == n) (q x) 255) 0 xs) sofar) ns (by_number (λ j x. cond (j == n) (f x) x) 0 xs)

one_given : {A : Type 0} (f : A → A) (q : A → ℕ) (n j : ℕ) (ns : List ℕ) (x : A) (here : Bool) → (j == n) ≡ here → is_among ns n ≡ false
    → cond (is_among ns j) (q (cond here (f x) x)) 255 ≡ cond (is_among ns j) (q x) 255
one_given f q n j ns x true at apart = let out = first_out n j ns at apart in rw out refl
one_given f q n j ns x false at apart = refl

ones_twice : (z : ℕ) → bit_and 255 (bit_and 255 z) ≡ bit_and 255 z
ones_twice z = sym (and_assoc z 255 255) ∙ ap (λ o. bit_and o z) (and_self 255)

either_given : (b c : Bool) (z : ℕ) → bit_and 255 (bit_and (cond b z 255) (cond c z 255)) ≡ bit_and 255 (cond (b || c) z 255)
either_given true true z = ap (bit_and 255) (and_self z)
either_given true false z = ap (bit_and 255) (and_comm z 255) ∙ ones_twice z
either_given false c z = ones_twice (cond c z 255)

told_old : {A : Type 0} (f : A → A) (q : A → ℕ) (sofar : ℕ) (ns : List ℕ) (xs : List A) → bit_and 255 sofar ≡ sofar
    → IsDistinct (λ k m. k == m) ns
    → told_and f q sofar ns xs ≡ bit_and (and_by (given_by ns q) 0 xs) sofar
told_old f q sofar [] xs ones d = sym (ap (λ o. bit_and o sofar) (and_nobody q 0 xs) ∙ ones)
told_old {A} f q sofar (n ∷ ns) xs ones d =
    let one : ℕ → A → A = λ j x. cond (j == n) (f x) x in
    let those : ℕ → A → ℕ = given_by ns q in
    let first : ℕ → A → ℕ = λ j x. cond (j == n) (q x) 255 in
    let apart = first_apart n ns d in
    told_old f q (bit_and (and_by first 0 xs) sofar) ns (by_number one 0 xs) (ones_inside (and_by first 0 xs) sofar ones)
    (rest_apart n ns d)
    ∙ ap (λ b. bit_and b (bit_and (and_by first 0 xs) sofar))
    (and_after those one 0 xs ∙ and_same (λ j x. those j (one j x)) those 0 xs
    (λ j x. ap (bit_and 255) (one_given f q n j ns x (j == n) refl apart)))
    ∙ sym (and_assoc sofar (and_by those 0 xs) (and_by first 0 xs))
    ∙ ap (λ b. bit_and b sofar)
    (and_both those first 0 xs
    ∙ and_same (λ j x. bit_and (first j x) (those j x)) (given_by (n ∷ ns) q) 0 xs
    (λ j x. either_given (j == n) (is_among ns j) (q x)))

-- the AND of what they gave
pub told_and_each : {A : Type 0} (f : A → A) (q : A → ℕ) (ns : List ℕ) (xs : List A) → IsDistinct (λ k m. k == m) ns
    → told_and f q 255 ns xs ≡ and_by (given_by ns q) 0 xs
told_and_each f q ns xs d =
    told_old f q 255 ns xs (and_self 255) d ∙ and_comm (and_by (given_by ns q) 0 xs) 255 ∙ and_ones (given_by ns q) 0 xs

-- it is asked before each is told
pub and_next : {A : Type 0} (f : A → A) (q : A → ℕ) {sofar : ℕ} {ns : List ℕ} {i : ℕ} {old xs : List A}
    → IsTold f (told_and f q) 255 sofar ns i old xs → (n : ℕ) (d y : A) → i < length ns → n ≡ get_or ns i 0 → n < length xs
    → y ≡ f (get_or xs n d) → (now : ℕ) → sofar < 256 → now ≡ bit_and sofar (q (get_or xs n d))
    → IsTold f (told_and f q) 255 now ns (i + 1) old (set xs n y)
and_next f q {sofar} {ns} {i} {old} {xs} was n d y lt at low is now small e =
    let x : ℕ = q (get_or xs n d) in
    told_next was n d y lt at low is now
    (ap (λ b. told_and f q b (drop (i + 1) ns) (by_number (λ j z. cond (j == n) (f z) z) 0 xs))
    (e ∙ and_comm sofar x ∙ sym (ones_first x sofar (byte_ones sofar small))
    ∙ ap (λ o. bit_and o sofar) (and_from q n 0 n xs d (omega arith) low)))

-- ---- where no other gives anything, they give all that is given
and_numbered : {A : Type 0} (p : ℕ → A → ℕ) (q : A → ℕ) (k : ℕ) (xs : List A)
    → ((i : ℕ) (x : A) → slice_get xs i ≡ Some x → p (k + i) x ≡ q x) → and_by p k xs ≡ and_all (map q xs)
and_numbered p q k [] same = refl
and_numbered p q k (x ∷ xs) same =
    let e : k + 0 ≡ k = omega arith in
    ap (λ b. bit_and b (and_by p (k + 1) xs)) (subst (λ n. p n x ≡ q x) e (same 0 x refl))
    ∙ ap (bit_and (q x))
    (and_numbered p q (k + 1) xs (λ i y is. let e : k + suc i ≡ k + 1 + i = omega arith in
    subst (λ n. p n y ≡ q y) e (same (suc i) y is)))

given_one : {A : Type 0} (b : Bool) (q : A → ℕ) (x : A) → (b ≡ false → q x ≡ 255) → cond b (q x) 255 ≡ q x
given_one true q x out = refl
given_one false q x out = sym (out refl)

pub and_of_those : {A : Type 0} (ns : List ℕ) (q : A → ℕ) (xs : List A)
    → ((i : ℕ) (x : A) → slice_get xs i ≡ Some x → is_among ns i ≡ false → q x ≡ 255)
    → and_by (given_by ns q) 0 xs ≡ and_all (map q xs)
and_of_those ns q xs out =
    and_numbered (given_by ns q) q 0 xs
    (λ i x is. let e : i ≡ 0 + i = omega arith in
    subst (λ n. given_by ns q n x ≡ q x) e (given_one (is_among ns i) q x (out i x is)))
