-- What is made of each of a list by its number, and what is done to those alone that have one of some numbers. The inductions go over
-- the list, and over the numbers.
use Rattle.bus_lines.proofs.Cited.{◌≡◌, ℕ, zero, suc, ◌+◌, ◌<◌, ◌==◌, Bool, true, false, ◌&&◌, ◌||◌, cond, List, [], ◌∷◌, length, map, drop}
use Rattle.bus_lines.proofs.Cited.{set, get_or, Some, None, refl, sym, ap, ◌∙◌, subst, inl, inr, arith, slice_get, length-set, drop_all}
use Rattle.bus_lines.proofs.Cited.{AllByRecursion, ne_eqb, eqb_tells, drop_more, some_one, is_among, by_number, some_by, to_those, of_those}
use Rattle.bus_lines.proofs.Cited.{or_regroup, or-true, eq_self, AreNumbers, and_by, bit_and, ◌≤◌}
use Rattle.std.specs.List.{IsDistinct}

pub same_some : {A : Type 0} {x y : A} → Some x ≡ Some y → x ≡ y
same_some e = cc

-- ---- what is made of each, seen by a map
map_from : {A B : Type 0} (f : ℕ → A → A) (g h : A → B) (k : ℕ) (xs : List A)
    → ((i : ℕ) (x : A) → slice_get xs i ≡ Some x → g (f (k + i) x) ≡ h x) → map g (by_number f k xs) ≡ map h xs
map_from f g h k [] same = refl
map_from f g h k (x ∷ xs) same =
    let e : k + 0 ≡ k = omega arith in
    ap (λ y. y ∷ map g (by_number f (k + 1) xs)) (subst (λ n. g (f n x) ≡ h x) e (same 0 x refl))
    ∙ ap (λ ys. h x ∷ ys)
    (map_from f g h (k + 1) xs (λ i y is. let e : k + suc i ≡ k + 1 + i = omega arith in
    subst (λ n. g (f n y) ≡ h y) e (same (suc i) y is)))

pub map_numbered : {A B : Type 0} (f : ℕ → A → A) (g h : A → B) (xs : List A)
    → ((i : ℕ) (x : A) → slice_get xs i ≡ Some x → g (f i x) ≡ h x) → map g (by_number f 0 xs) ≡ map h xs
map_numbered f g h xs same =
    map_from f g h 0 xs (λ i x is. let e : i ≡ 0 + i = omega arith in subst (λ n. g (f n x) ≡ h x) e (same i x is))

-- a map that does the same to each
pub map_same : {A B : Type 0} (g h : A → B) (xs : List A) → ((i : ℕ) (x : A) → slice_get xs i ≡ Some x → g x ≡ h x) → map g xs ≡ map h xs
map_same g h [] same = refl
map_same g h (x ∷ xs) same =
    ap (λ y. y ∷ map g xs) (same 0 x refl) ∙ ap (λ ys. h x ∷ ys) (map_same g h xs (λ i y is. same (suc i) y is))

pub map_itself : {A : Type 0} (g : A → A) (xs : List A) → ((i : ℕ) (x : A) → slice_get xs i ≡ Some x → g x ≡ x) → map g xs ≡ xs
map_itself g [] same = refl
map_itself g (x ∷ xs) same =
    ap (λ y. y ∷ map g xs) (same 0 x refl) ∙ ap (λ ys. x ∷ ys) (map_itself g xs (λ i y is. same (suc i) y is))

-- the same of lists by number
numbered_same_from : {A : Type 0} (f g : ℕ → A → A) (k : ℕ) (xs : List A)
    → ((i : ℕ) (x : A) → slice_get xs i ≡ Some x → f (k + i) x ≡ g (k + i) x) → by_number f k xs ≡ by_number g k xs
numbered_same_from f g k [] same = refl
numbered_same_from f g k (x ∷ xs) same =
    let e : k + 0 ≡ k = omega arith in
    ap (λ y. y ∷ by_number f (k + 1) xs) (subst (λ n. f n x ≡ g n x) e (same 0 x refl))
    ∙ ap (λ ys. g k x ∷ ys)
    (numbered_same_from f g (k + 1) xs (λ i y is. let e : k + suc i ≡ k + 1 + i = omega arith in
    subst (λ n. f n y ≡ g n y) e (same (suc i) y is)))

pub numbered_same : {A : Type 0} (f g : ℕ → A → A) (xs : List A)
    → ((i : ℕ) (x : A) → slice_get xs i ≡ Some x → f i x ≡ g i x) → by_number f 0 xs ≡ by_number g 0 xs
numbered_same f g xs same =
    numbered_same_from f g 0 xs (λ i x is. let e : i ≡ 0 + i = omega arith in subst (λ n. f n x ≡ g n x) e (same i x is))

itself_from : {A : Type 0} (f : ℕ → A → A) (k : ℕ) (xs : List A)
    → ((i : ℕ) (x : A) → slice_get xs i ≡ Some x → f (k + i) x ≡ x) → by_number f k xs ≡ xs
itself_from f k [] same = refl
itself_from f k (x ∷ xs) same =
    let e : k + 0 ≡ k = omega arith in
    ap (λ y. y ∷ by_number f (k + 1) xs) (subst (λ n. f n x ≡ x) e (same 0 x refl))
    ∙ ap (λ ys. x ∷ ys)
    (itself_from f (k + 1) xs (λ i y is. let e : k + suc i ≡ k + 1 + i = omega arith in
    subst (λ n. f n y ≡ y) e (same (suc i) y is)))

pub numbered_itself : {A : Type 0} (f : ℕ → A → A) (xs : List A)
    → ((i : ℕ) (x : A) → slice_get xs i ≡ Some x → f i x ≡ x) → by_number f 0 xs ≡ xs
numbered_itself f xs same =
    itself_from f 0 xs (λ i x is. let e : i ≡ 0 + i = omega arith in subst (λ n. f n x ≡ x) e (same i x is))

-- one after the other
pub numbered_twice : {A : Type 0} (f g : ℕ → A → A) (k : ℕ) (xs : List A)
    → by_number g k (by_number f k xs) ≡ by_number (λ i x. g i (f i x)) k xs
numbered_twice f g k [] = refl
numbered_twice f g k (x ∷ xs) = ap (λ ys. g k (f k x) ∷ ys) (numbered_twice f g (k + 1) xs)

-- the same made of each
pub numbered_map : {A : Type 0} (f : A → A) (k : ℕ) (xs : List A) → map f xs ≡ by_number (λ i x. f x) k xs
numbered_map f k [] = refl
numbered_map f k (x ∷ xs) = ap (λ ys. f x ∷ ys) (numbered_map f (k + 1) xs)

-- ---- what stands at a number
from_number : {A : Type 0} (f : ℕ → A → A) (k i : ℕ) (xs : List A) (y : A) → slice_get (by_number f k xs) i ≡ Some y
    → (x : A) × (slice_get xs i ≡ Some x) × (f (k + i) x ≡ y)
from_number f k i [] y is = absurd (let e : None ≡ Some y = is in cc)
from_number f k zero (x ∷ xs) y is =
    let e : k ≡ k + 0 = omega arith in
    let same : f k x ≡ y = same_some is in
    (x, refl, subst (λ n. f n x ≡ y) e same)
from_number f k (suc i) (x ∷ xs) y is =
    let e : k + 1 + i ≡ k + suc i = omega arith in
    let r = from_number f (k + 1) i xs y is in
    (r.0, r.1, subst (λ n. f n r.0 ≡ y) e r.2)

pub at_number : {A : Type 0} (f : ℕ → A → A) (i : ℕ) (xs : List A) (y : A) → slice_get (by_number f 0 xs) i ≡ Some y
    → (x : A) × (slice_get xs i ≡ Some x) × (f i x ≡ y)
at_number f i xs y is =
    let r = from_number f 0 i xs y is in
    let e : 0 + i ≡ i = omega arith in
    (r.0, r.1, subst (λ n. f n r.0 ≡ y) e r.2)

pub length-numbered : {A : Type 0} (f : ℕ → A → A) (k : ℕ) (xs : List A) → length (by_number f k xs) ≡ length xs
length-numbered f k [] = refl
length-numbered f k (x ∷ xs) = ap suc (length-numbered f (k + 1) xs)

-- ---- one of a list is set
above_number : {A : Type 0} (n k : ℕ) (f : A → A) (xs : List A) → n < k → by_number (λ i x. cond (i == n) (f x) x) k xs ≡ xs
above_number n k f [] lt = refl
above_number n k f (x ∷ xs) lt =
    let no : (k == n) ≡ false = ne_eqb k n (λ e. absurd (omega (arith, e, lt))) in
    ap (λ b. cond b (f x) x ∷ by_number (λ i y. cond (i == n) (f y) y) (k + 1) xs) no
    ∙ ap (λ ys. x ∷ ys) (above_number n (k + 1) f xs (omega (arith, lt)))

set_from : {A : Type 0} (n k i : ℕ) (f : A → A) (xs : List A) (d y : A) → n ≡ k + i → i < length xs → y ≡ f (get_or xs i d)
    → set xs i y ≡ by_number (λ j x. cond (j == n) (f x) x) k xs
set_from n k i f [] d y at lt is = absurd (omega (arith, lt))
set_from n k zero f (x ∷ xs) d y at lt is =
    let e : k ≡ n = omega (arith, at) in
    let yes : (k == n) ≡ true = subst (λ m. (k == m) ≡ true) e (eq_self k) in
    ap (λ z. z ∷ xs) (is ∙ ap (λ b. cond b (f x) x) (sym yes))
    ∙ ap (λ ys. cond (k == n) (f x) x ∷ ys) (sym (above_number n (k + 1) f xs (omega (arith, at))))
set_from n k (suc i) f (x ∷ xs) d y at lt is =
    let no : (k == n) ≡ false = ne_eqb k n (λ e. absurd (omega (arith, e, at))) in
    ap (λ ys. x ∷ ys) (set_from n (k + 1) i f xs d y (omega (arith, at)) (omega (arith, lt)) is)
    ∙ ap (λ b. cond b (f x) x ∷ by_number (λ j z. cond (j == n) (f z) z) (k + 1) xs) (sym no)

pub set_number : {A : Type 0} (n : ℕ) (f : A → A) (xs : List A) (d y : A) → n < length xs → y ≡ f (get_or xs n d)
    → set xs n y ≡ by_number (λ j x. cond (j == n) (f x) x) 0 xs
set_number n f xs d y lt is = set_from n 0 n f xs d y (omega arith) lt is

-- ---- one after the other of some numbers
abbrev pub told : {A : Type 0} → (A → A) → List ℕ → List A → List A
told f [] xs = xs
told f (n ∷ ns) xs = told f ns (by_number (λ j x. cond (j == n) (f x) x) 0 xs)

not_among : (n : ℕ) (ns : List ℕ) → AllByRecursion (λ m. (n == m) ≡ false) ns → is_among ns n ≡ false
not_among n [] all = refl
not_among n (m ∷ ms) all = rw all.0 (not_among n ms all.1)

pub first_apart : (n : ℕ) (ns : List ℕ) → IsDistinct (λ k m. k == m) (n ∷ ns) → is_among ns n ≡ false
unfolding IsDistinct
first_apart n ns d = not_among n ns d.0

pub rest_apart : (n : ℕ) (ns : List ℕ) → IsDistinct (λ k m. k == m) (n ∷ ns) → IsDistinct (λ k m. k == m) ns
unfolding IsDistinct
rest_apart n ns d = d.1

-- a number that is the first is none of the rest
pub first_out : (n j : ℕ) (ns : List ℕ) → (j == n) ≡ true → is_among ns n ≡ false → is_among ns j ≡ false
first_out n j ns at apart =
    let e : j ≡ n = elim (eqb_tells j n) [
      | inl y ↦ y.1
      | inr y ↦ absurd (let no : true ≡ false = sym at ∙ y.0 in cc)
    ] in
    ap (is_among ns) e ∙ apart

told_one : {A : Type 0} (f : A → A) (n j : ℕ) (ns : List ℕ) (x : A) (here : Bool) → (j == n) ≡ here → is_among ns n ≡ false
    → cond (is_among ns j) (f (cond here (f x) x)) (cond here (f x) x) ≡ cond (here || is_among ns j) (f x) x
told_one f n j ns x true at apart = ap (λ b. cond b (f (f x)) (f x)) (first_out n j ns at apart)
told_one f n j ns x false at apart = refl

-- each of them is told once
pub told_each : {A : Type 0} (f : A → A) (ns : List ℕ) (xs : List A) → IsDistinct (λ k m. k == m) ns
    → told f ns xs ≡ by_number (to_those ns f) 0 xs
told_each f [] xs d = sym (numbered_itself (to_those [] f) xs (λ i x is. refl))
told_each f (n ∷ ns) xs d =
    told_each f ns (by_number (λ j x. cond (j == n) (f x) x) 0 xs) (rest_apart n ns d)
    ∙ numbered_twice (λ j x. cond (j == n) (f x) x) (to_those ns f) 0 xs
    ∙ numbered_same (λ j x. to_those ns f j (cond (j == n) (f x) x)) (to_those (n ∷ ns) f) xs
    (λ j x is. told_one f n j ns x (j == n) refl (first_apart n ns d))

-- ---- what an operation makes of what is made of each
abbrev pub gathered : {A B : Type 0} → (B → B → B) → B → (ℕ → A → B) → ℕ → List A → B
gathered op e f k [] = e
gathered op e f k (x ∷ xs) = op (f k x) (gathered op e f (k + 1) xs)

pub some_gathered : {A : Type 0} (p : ℕ → A → Bool) (k : ℕ) (xs : List A) → some_by p k xs ≡ gathered ◌||◌ false p k xs
some_gathered p k [] = refl
some_gathered p k (x ∷ xs) = ap (λ b. p k x || b) (some_gathered p (k + 1) xs)

pub and_gathered : {A : Type 0} (q : ℕ → A → ℕ) (k : ℕ) (xs : List A) → and_by q k xs ≡ gathered bit_and 255 q k xs
and_gathered q k [] = refl
and_gathered q k (x ∷ xs) = ap (bit_and (q k x)) (and_gathered q (k + 1) xs)

-- ---- whether it is so of someone
pub some_numbered : {A : Type 0} (p : ℕ → A → Bool) (q : A → Bool) (k : ℕ) (xs : List A)
    → ((i : ℕ) (x : A) → slice_get xs i ≡ Some x → p (k + i) x ≡ q x) → some_by p k xs ≡ some_one q xs
some_numbered p q k [] same = refl
some_numbered p q k (x ∷ xs) same =
    let e : k + 0 ≡ k = omega arith in
    ap (λ b. b || some_by p (k + 1) xs) (subst (λ n. p n x ≡ q x) e (same 0 x refl))
    ∙ ap (λ b. q x || b)
    (some_numbered p q (k + 1) xs (λ i y is. let e : k + suc i ≡ k + 1 + i = omega arith in
    subst (λ n. p n y ≡ q y) e (same (suc i) y is)))

-- where it is so of none but these, it is so of one of these
of_those_one : {A : Type 0} (b : Bool) (p : A → Bool) (x : A) → (b ≡ false → p x ≡ false) → (b && p x) ≡ p x
of_those_one true p x out = refl
of_those_one false p x out = sym (out refl)

pub some_of_those : {A : Type 0} (ns : List ℕ) (p : A → Bool) (xs : List A)
    → ((i : ℕ) (x : A) → slice_get xs i ≡ Some x → is_among ns i ≡ false → p x ≡ false)
    → some_by (of_those ns p) 0 xs ≡ some_one p xs
some_of_those ns p xs out =
    some_numbered (of_those ns p) p 0 xs
    (λ i x is. let e : i ≡ 0 + i = omega arith in
    subst (λ n. of_those ns p n x ≡ p x) e (of_those_one (is_among ns i) p x (out i x is)))

-- what is made of each leaves it as it was
pub some_kept : {A : Type 0} (p : A → Bool) (g : A → A) (xs : List A) → ((x : A) → p (g x) ≡ p x) → some_one p (map g xs) ≡ some_one p xs
some_kept p g [] same = refl
some_kept p g (x ∷ xs) same = rw (same x, some_kept p g xs same) refl

pub some_none : {A : Type 0} (p : A → Bool) (xs : List A) → ((i : ℕ) (x : A) → slice_get xs i ≡ Some x → p x ≡ false)
    → some_one p xs ≡ false
some_none p [] out = refl
some_none p (x ∷ xs) out = rw (out 0 x refl) (some_none p xs (λ i y is. out (suc i) y is))

pub nobody_by : {A : Type 0} (p : A → Bool) (k : ℕ) (xs : List A) → some_by (of_those [] p) k xs ≡ false
nobody_by p k [] = refl
nobody_by p k (x ∷ xs) = nobody_by p (k + 1) xs

-- whether it was so of one of some numbers, before each was told; and whether it is so, once each was told
abbrev pub told_was : {A : Type 0} → (A → A) → (A → Bool) → Bool → List ℕ → List A → Bool
told_was f q sofar [] xs = sofar
told_was f q sofar (n ∷ ns) xs = told_was f q (some_by (λ j x. (j == n) && q x) 0 xs || sofar) ns
    (by_number (λ j x. cond (j == n) (f x) x) 0 xs)

abbrev pub told_some : {A : Type 0} → (A → A) → (A → Bool) → Bool → List ℕ → List A → Bool
told_some f p = told_was f (λ x. p (f x))

some_above : {A : Type 0} (p : A → Bool) (n k : ℕ) (xs : List A) → n < k → some_by (λ j x. (j == n) && p x) k xs ≡ false
some_above p n k [] lt = refl
some_above p n k (x ∷ xs) lt =
    let other : (k == n) ≡ false = ne_eqb k n (λ e. absurd (omega (arith, e, lt))) in
    rw other (some_above p n (k + 1) xs (omega (arith, lt)))

or_none : (b : Bool) → b ≡ (b || false)
or_none true = refl
or_none false = refl

some_from : {A : Type 0} (p : A → Bool) (n k i : ℕ) (xs : List A) (d : A) → n ≡ k + i → i < length xs
    → p (get_or xs i d) ≡ some_by (λ j x. (j == n) && p x) k xs
some_from p n k i [] d at lt = absurd (omega (arith, lt))
some_from p n k zero (x ∷ xs) d at lt =
    let e : k ≡ n = omega (arith, at) in
    let here : (k == n) ≡ true = subst (λ m. (k == m) ≡ true) e (eq_self k) in
    rw (here, some_above p n (k + 1) xs (omega (arith, at))) (or_none (p x))
some_from p n k (suc i) (x ∷ xs) d at lt =
    let other : (k == n) ≡ false = ne_eqb k n (λ e. absurd (omega (arith, e, at))) in
    rw other (some_from p n (k + 1) i xs d (omega (arith, at)) (omega (arith, lt)))

-- one alone
pub some_number : {A : Type 0} (p : A → Bool) (n : ℕ) (xs : List A) (d : A) → n < length xs
    → p (get_or xs n d) ≡ some_by (λ j x. (j == n) && p x) 0 xs
some_number p n xs d lt = some_from p n 0 n xs d (omega arith) lt

or_swap : (a b : Bool) → (a || b) ≡ (b || a)
or_swap true b = sym (or-true b)
or_swap false b = or_none b

or_parts : (a b c d : Bool) → ((a || b) || (c || d)) ≡ ((c || a) || (d || b))
or_parts true b true d = refl
or_parts true b false d = refl
or_parts false b true d = or-true b
or_parts false b false d = or_swap b d

-- one list of tests beside another
some_both : {A : Type 0} (p q : ℕ → A → Bool) (k : ℕ) (xs : List A)
    → (some_by p k xs || some_by q k xs) ≡ some_by (λ j x. q j x || p j x) k xs
some_both p q k [] = refl
some_both p q k (x ∷ xs) =
    or_parts (p k x) (some_by p (k + 1) xs) (q k x) (some_by q (k + 1) xs)
    ∙ ap (λ b. (q k x || p k x) || b) (or_swap (some_by q (k + 1) xs) (some_by p (k + 1) xs) ∙ some_both p q (k + 1) xs)

some_same : {A : Type 0} (p q : ℕ → A → Bool) (k : ℕ) (xs : List A) → ((i : ℕ) (x : A) → p i x ≡ q i x) → some_by p k xs ≡ some_by q k xs
some_same p q k [] same = refl
some_same p q k (x ∷ xs) same = rw (same k x, some_same p q (k + 1) xs same) refl

some_after : {A : Type 0} (p : ℕ → A → Bool) (f : ℕ → A → A) (k : ℕ) (xs : List A)
    → some_by p k (by_number f k xs) ≡ some_by (λ j x. p j (f j x)) k xs
some_after p f k [] = refl
some_after p f k (x ∷ xs) = ap (λ b. p k (f k x) || b) (some_after p f (k + 1) xs)

and_either : (b c z : Bool) → ((b && z) || (c && z)) ≡ ((b || c) && z)
and_either true true true = refl
and_either true true false = refl
and_either true false true = refl
and_either true false false = refl
and_either false c z = refl

one_was : {A : Type 0} (f : A → A) (q : A → Bool) (n j : ℕ) (ns : List ℕ) (x : A) (here : Bool) → (j == n) ≡ here → is_among ns n ≡ false
    → (is_among ns j && q (cond here (f x) x)) ≡ (is_among ns j && q x)
one_was f q n j ns x true at apart = let out = first_out n j ns at apart in rw out refl
one_was f q n j ns x false at apart = refl

told_old : {A : Type 0} (f : A → A) (q : A → Bool) (sofar : Bool) (ns : List ℕ) (xs : List A) → IsDistinct (λ k m. k == m) ns
    → told_was f q sofar ns xs ≡ (some_by (of_those ns q) 0 xs || sofar)
told_old f q sofar [] xs d = ap (λ b. b || sofar) (sym (nobody_by q 0 xs))
told_old {A} f q sofar (n ∷ ns) xs d =
    let one : ℕ → A → A = λ j x. cond (j == n) (f x) x in
    let those : ℕ → A → Bool = of_those ns q in
    let first : ℕ → A → Bool = λ j x. (j == n) && q x in
    let apart = first_apart n ns d in
    told_old f q (some_by first 0 xs || sofar) ns (by_number one 0 xs) (rest_apart n ns d)
    ∙ ap (λ b. b || (some_by first 0 xs || sofar))
    (some_after those one 0 xs ∙ some_same (λ j x. those j (one j x)) those 0 xs
    (λ j x. one_was f q n j ns x (j == n) refl apart))
    ∙ or_regroup (some_by those 0 xs) (some_by first 0 xs) sofar
    ∙ ap (λ b. b || sofar)
    (some_both those first 0 xs
    ∙ some_same (λ j x. first j x || those j x) (of_those (n ∷ ns) q) 0 xs
    (λ j x. and_either (j == n) (is_among ns j) (q x)))

-- whether it was so of one of them
pub told_was_each : {A : Type 0} (f : A → A) (q : A → Bool) (ns : List ℕ) (xs : List A) → IsDistinct (λ k m. k == m) ns
    → told_was f q false ns xs ≡ some_by (of_those ns q) 0 xs
told_was_each f q ns xs d = told_old f q false ns xs d ∙ sym (or_none (some_by (of_those ns q) 0 xs))

test_told : {A : Type 0} (f : A → A) (p : A → Bool) (x : A) (b : Bool) → (b && p (f x)) ≡ (b && p (cond b (f x) x))
test_told f p x true = refl
test_told f p x false = refl

-- whether it is so of one of them, once all were told
pub told_some_each : {A : Type 0} (f : A → A) (p : A → Bool) (ns : List ℕ) (xs : List A) → IsDistinct (λ k m. k == m) ns
    → told_some f p false ns xs ≡ some_by (of_those ns p) 0 (by_number (to_those ns f) 0 xs)
told_some_each {A} f p ns xs d =
    told_was_each f (λ x. p (f x)) ns xs d
    ∙ some_same (λ j x. is_among ns j && p (f x)) (λ j x. of_those ns p j (to_those ns f j x)) 0 xs
    (λ j x. test_told f p x (is_among ns j))
    ∙ sym (some_after (of_those ns p) (to_those ns f) 0 xs)

-- ---- a loop over some numbers
among_first : (n k : ℕ) (ns : List ℕ) → k ≡ n → is_among (n ∷ ns) k ≡ true
among_first n k ns e = let here : (k == n) ≡ true = subst (λ m. (k == m) ≡ true) e (eq_self k) in rw here refl

-- the number at a place is among them, and low enough
pub among_at : (ns : List ℕ) (i : ℕ) → i < length ns → is_among ns (get_or ns i 0) ≡ true
among_at [] i lt = absurd (omega (arith, lt))
among_at (n ∷ ns) zero lt = among_first n n ns refl
among_at (n ∷ ns) (suc i) lt = rw (among_at ns i (omega (arith, lt))) (or-true (get_or ns i 0 == n))

pub below_at : {room : ℕ} {ns : List ℕ} → AreNumbers room ns → (i n : ℕ) → i < length ns → n ≡ get_or ns i 0 → n < room
below_at {room} {ns} are i n lt at = omega (arith, are.below (get_or ns i 0) (among_at ns i lt), at)

rest_at : (ns : List ℕ) (i n : ℕ) → i < length ns → n ≡ get_or ns i 0 → n ∷ drop (i + 1) ns ≡ drop i ns
rest_at ns i n lt at = ap (λ m. m ∷ drop (i + 1) ns) at ∙ sym (drop_more ns i 0 lt)

-- they are told one after the other, and something is asked: what is left to be told comes to what all come to
pub record IsTold {A B : Type 0} (f : A → A) (ask : B → List ℕ → List A → B) (first sofar : B) (ns : List ℕ) (i : ℕ)
    (old now : List A) : Type 0 where
  pub count : length now ≡ length old
  pub targets : told f (drop i ns) now ≡ told f ns old
  pub answer : ask sofar (drop i ns) now ≡ ask first ns old

module _ {A B : Type 0} {f : A → A} {ask : B → List ℕ → List A → B} {first sofar : B} {ns : List ℕ} {i : ℕ} {old xs : List A}
    (was : IsTold f ask first sofar ns i old xs) where
  pub told_done : IsDistinct (λ k m. k == m) ns → length ns ≤ i → xs ≡ by_number (to_those ns f) 0 old
  told_done apart over = sym (ap (λ ms. told f ms xs) (drop_all ns i over)) ∙ was.targets ∙ told_each f ns old apart

  pub asked_done : length ns ≤ i → ask sofar [] xs ≡ ask first ns old
  asked_done over = sym (ap (λ ms. ask sofar ms xs) (drop_all ns i over)) ∙ was.answer

  -- one more is told
  pub told_next : (n : ℕ) (d y : A) → i < length ns → n ≡ get_or ns i 0 → n < length xs → y ≡ f (get_or xs n d) → (now : B)
      → ask now (drop (i + 1) ns) (by_number (λ j x. cond (j == n) (f x) x) 0 xs) ≡ ask sofar (n ∷ drop (i + 1) ns) xs
      → IsTold f ask first now ns (i + 1) old (set xs n y)
  told_next n d y lt at low is now next =
      let rest = rest_at ns i n lt at in
      let one = set_number n f xs d y low is in
      record {
        count = length-set xs n y ∙ was.count;
        targets = ap (told f (drop (i + 1) ns)) one ∙ ap (λ ms. told f ms xs) rest ∙ was.targets;
        answer = ap (ask now (drop (i + 1) ns)) one ∙ next ∙ ap (λ ms. ask sofar ms xs) rest ∙ was.answer;
      }

-- it is asked before each is told
pub was_next : {A : Type 0} (f : A → A) (q : A → Bool) {sofar : Bool} {ns : List ℕ} {i : ℕ} {old xs : List A}
    → IsTold f (told_was f q) false sofar ns i old xs → (n : ℕ) (d y : A) → i < length ns → n ≡ get_or ns i 0 → n < length xs
    → y ≡ f (get_or xs n d) → (now : Bool) → now ≡ (q (get_or xs n d) || sofar)
    → IsTold f (told_was f q) false now ns (i + 1) old (set xs n y)
was_next f q {sofar} {ns} {i} {old} {xs} was n d y lt at low is now e =
    told_next was n d y lt at low is now
    (ap (λ b. told_was f q b (drop (i + 1) ns) (by_number (λ j x. cond (j == n) (f x) x) 0 xs))
    (e ∙ ap (λ b. b || sofar) (some_number q n xs d low)))

-- .. or once it is
pub some_next : {A : Type 0} (f : A → A) (p : A → Bool) {sofar : Bool} {ns : List ℕ} {i : ℕ} {old xs : List A}
    → IsTold f (told_some f p) false sofar ns i old xs → (n : ℕ) (d y : A) → i < length ns → n ≡ get_or ns i 0 → n < length xs
    → y ≡ f (get_or xs n d) → (now : Bool) → now ≡ (p y || sofar) → IsTold f (told_some f p) false now ns (i + 1) old (set xs n y)
some_next f p {sofar} {ns} {i} {old} {xs} was n d y lt at low is now e =
    was_next f (λ x. p (f x)) was n d y lt at low is now (e ∙ ap (λ x. p x || sofar) is)
