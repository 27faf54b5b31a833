-- The first line of a text. The inductions go over its bytes.
use Rattle.tools.proofs.Cited.{◌≡◌, ℕ, zero, suc, ◌+◌, ◌<◌, ◌≤◌, Option, Some, None, Bool, true, false, List, [], ◌∷◌, ◌++◌, length, take}
use Rattle.tools.proofs.Cited.{drop, refl, sym, ap, ◌∙◌, arith, cond, ◌&&◌, add-one, get_or, nat_tests, onto_first}
use Rattle.std.proofs.Common.{eqb}
use Rattle.std.specs.Option.{unwrap_or}
use Rattle.std.proofs.lemmas.Bool.{eq-eqb, ne_eqb}
use Rattle.std.proofs.lemmas.List.{drop_more, drop_all, take_more}
use Rattle.memchr.specs.Find.{IsFirstByte, Nowhere, Passes, is_byte}
use Rattle.tools.specs.Splits.{lines_of, feed_at}

-- the bytes without a carriage return at their end
abbrev without_return : List ℕ → List ℕ
without_return [] = []
without_return (b ∷ []) = cond (eqb b 13) [] (b ∷ [])
without_return (b ∷ c ∷ cs) = b ∷ without_return (c ∷ cs)

-- a text cut at its first line feed, into its first line and the others
abbrev cut : List ℕ → List ℕ → List (List ℕ)
cut line [] = line ∷ []
cut line (feed ∷ behind) = without_return line ∷ lines_of behind

onto_cut : (b c : ℕ) (line rest : List ℕ) → onto_first b (cut (c ∷ line) rest) ≡ cut (b ∷ c ∷ line) rest
onto_cut b c line [] = refl
onto_cut b c line (feed ∷ behind) = refl

cut_more : (r s : Bool) (b c n : ℕ) (bs : List ℕ) (ls : List (List ℕ)) → eqb b 13 ≡ r
    → ls ≡ cut (take (cond s 0 (n + 1)) (c ∷ bs)) (drop (cond s 0 (n + 1)) (c ∷ bs))
    → cond (r && s) ls (onto_first b ls) ≡ cut (b ∷ take (cond s 0 (n + 1)) (c ∷ bs)) (drop (cond s 0 (n + 1)) (c ∷ bs))
cut_more true true b c n bs ls is e = e ∙ ap (λ t. cond t [] (b ∷ []) ∷ lines_of bs) (sym is)
cut_more false true b c n bs ls is e = ap (onto_first b) e ∙ ap (λ t. cond t [] (b ∷ []) ∷ lines_of bs) (sym is)
cut_more true false b c n bs ls is e = let at = rw add-one at e in rw add-one (ap (onto_first b) at ∙ onto_cut b c (take n bs) (drop n bs))
cut_more false false b c n bs ls is e = let at = rw add-one at e in rw add-one (ap (onto_first b) at ∙ onto_cut b c (take n bs) (drop n bs))

-- a text that isn't empty is its first line and the lines after it
lines_cut : (b : ℕ) (bs : List ℕ) → lines_of (b ∷ bs) ≡ cut (take (feed_at (b ∷ bs)) (b ∷ bs)) (drop (feed_at (b ∷ bs)) (b ∷ bs))
lines_cut b [] =
    (elim (eqb b 10) as (λ f. (r : Bool)
    → cond f ([] ∷ []) (cond (r && false) [] ((b ∷ []) ∷ [])) ≡ cut (take (cond f 0 (0 + 1)) (b ∷ []))
    (drop (cond f 0 (0 + 1)) (b ∷ []))) [
      | true ↦ λ r. refl
      | false ↦ elim [ true ↦ refl | false ↦ refl ]
    ]) (eqb b 13)
lines_cut b (c ∷ cs) =
    let ls : List (List ℕ) = lines_of (c ∷ cs) in
    let n : ℕ = feed_at (c ∷ cs) in
    elim (eqb b 10) as (λ f. cond f ([] ∷ ls) (cond (eqb b 13 && eqb c 10) ls (onto_first b ls)) ≡ cut
    (take (cond f 0 (n + 1)) (b ∷ c ∷ cs)) (drop (cond f 0 (n + 1)) (b ∷ c ∷ cs))) [
      | true ↦ refl
      | false ↦ rw (add-one n) (cut_more (eqb b 13) (eqb c 10) b c (feed_at cs) cs ls refl (lines_cut c cs))
    ]

cut_whole : (xs line rest : List ℕ) → 0 < length xs → line ≡ take (feed_at xs) xs → rest ≡ drop (feed_at xs) xs
    → lines_of xs ≡ cut line rest
cut_whole [] line rest some l r = absurd (omega arith)
cut_whole (b ∷ bs) line rest some l r = lines_cut b bs ∙ ap (λ x. cut x (drop (feed_at (b ∷ bs)) (b ∷ bs))) (sym l) ∙ ap (cut line) (sym r)

-- a line whose last byte is this one
onto_choice : (t : Bool) (b : ℕ) (xs ys : List ℕ) → b ∷ cond t xs ys ≡ cond t (b ∷ xs) (b ∷ ys)
onto_choice true b xs ys = refl
onto_choice false b xs ys = refl

without_last : (xs : List ℕ) (x : ℕ) → without_return (xs ++ x ∷ []) ≡ cond (eqb x 13) xs (xs ++ x ∷ [])
without_last [] x = refl
without_last (b ∷ []) x = onto_choice (eqb x 13) b [] (x ∷ [])
without_last (b ∷ c ∷ cs) x = ap (λ ys. b ∷ ys) (without_last (c ∷ cs) x) ∙ onto_choice (eqb x 13) b (c ∷ cs) (c ∷ cs ++ x ∷ [])

-- the first line of a text whose first line feed stands behind a carriage return, after another byte, or nowhere
at_feed : (xs : List ℕ) (n : ℕ) → feed_at xs ≡ n → n < length xs → lines_of xs ≡ without_return (take n xs) ∷ lines_of (drop (n + 1) xs)
at_feed xs n is within =
    let some : 0 < length xs = omega arith in
    let rest : drop n xs ≡ get_or xs n 0 ∷ drop (n + 1) xs = drop_more xs n 0 within in
    cut_whole xs (take n xs) (drop n xs) some (ap (λ k. take k xs) (sym is)) (ap (λ k. drop k xs) (sym is)) ∙ ap (cut (take n xs)) rest

return_at : (xs : List ℕ) (m : ℕ) → m < length xs
    → without_return (take (m + 1) xs) ≡ cond (eqb (get_or xs m 0) 13) (take m xs) (take (m + 1) xs)
return_at xs m within =
    let e : take (m + 1) xs ≡ take m xs ++ get_or xs m 0 ∷ [] = take_more xs m 0 within in
    ap without_return e ∙ without_last (take m xs) (get_or xs m 0) ∙ ap (λ ys. cond (eqb (get_or xs m 0) 13) (take m xs) ys) (sym e)

pub cut_returned : (xs : List ℕ) (m : ℕ) → feed_at xs ≡ m + 1 → m + 1 < length xs → get_or xs m 0 ≡ 13
    → lines_of xs ≡ take m xs ∷ lines_of (drop (m + 1 + 1) xs)
cut_returned xs m is within returned =
    let t : eqb (get_or xs m 0) 13 ≡ true = grind (arith, nat_tests) in
    let inside : m < length xs = omega arith in
    at_feed xs (m + 1) is within ∙ ap (λ line. line ∷ lines_of (drop (m + 1 + 1) xs)) (return_at xs m inside
    ∙ ap (λ s. cond s (take m xs) (take (m + 1) xs)) t)

pub cut_plain : (xs : List ℕ) (m : ℕ) → feed_at xs ≡ m + 1 → m + 1 < length xs → (get_or xs m 0 ≡ 13 → ⊥)
    → lines_of xs ≡ take (m + 1) xs ∷ lines_of (drop (m + 1 + 1) xs)
cut_plain xs m is within kept =
    let t : eqb (get_or xs m 0) 13 ≡ false = grind (arith, nat_tests) in
    let inside : m < length xs = omega arith in
    at_feed xs (m + 1) is within ∙ ap (λ line. line ∷ lines_of (drop (m + 1 + 1) xs)) (return_at xs m inside
    ∙ ap (λ s. cond s (take m xs) (take (m + 1) xs)) t)

pub cut_over : (xs : List ℕ) → feed_at xs ≡ length xs → 0 < length xs → lines_of xs ≡ take (feed_at xs) xs ∷ lines_of (drop (feed_at xs) xs)
cut_over xs is within =
    let rest : drop (feed_at xs) xs ≡ [] = ap (λ k. drop k xs) is ∙ drop_all (length xs) xs (omega arith) in
    cut_whole xs (take (feed_at xs) xs) (drop (feed_at xs) xs) within refl refl ∙ ap (cut (take (feed_at xs) xs)) rest
    ∙ ap (λ x. take (feed_at xs) xs ∷ lines_of x) (sym rest)

feed_more : (b : ℕ) (bs ys : List ℕ) → ys ≡ b ∷ bs → eqb b 10 ≡ false → feed_at ys ≡ feed_at bs + 1
feed_more b bs ys e h = ap feed_at e ∙ ap (λ s. cond s 0 (feed_at bs + 1)) h

-- so many bytes stand before the first line feed, and how many stand there behind them
behind_none : (xs : List ℕ) (n : ℕ) → n ≤ length xs → Nowhere (Passes (is_byte 10) xs) 0 n → feed_at xs ≡ n + feed_at (drop n xs)
behind_none xs zero within none = omega arith
behind_none xs (suc n) within none =
    let other : eqb (get_or xs n 0) 10 ≡ false = ne_eqb (get_or xs n 0) 10 (λ e. none n (omega arith) (omega arith)
    (eq-eqb (get_or xs n 0) 10 e)) in
    let inside : n < length xs = omega (arith, within) in
    let before = behind_none xs n (omega (arith, within)) (λ k low high. none k low (omega (arith, high))) in
    let more = feed_more (get_or xs n 0) (drop (n + 1) xs) (drop n xs) (drop_more xs n 0 inside) other in
    let next : feed_at (drop (n + 1) xs) ≡ feed_at (drop (suc n) xs) = ap (λ k. feed_at (drop k xs)) (add-one n) in
    omega (arith, before, more, next)

-- a search for the first line feed
pub first_feed : (xs : List ℕ) (found : Option ℕ) → IsFirstByte (is_byte 10) xs found → unwrap_or found (length xs) ≡ feed_at xs
first_feed xs None none =
    let all = behind_none xs (length xs) (omega arith) none in
    let rest : drop (length xs) xs ≡ [] = drop_all (length xs) xs (omega arith) in
    let over : feed_at (drop (length xs) xs) ≡ 0 = ap feed_at rest in
    omega (arith, all, over)
first_feed xs (Some k) is =
    let inside : k < length xs = is.0.high in
    let before = behind_none xs k (omega (arith, inside)) is.0.before in
    let feed : feed_at (drop k xs) ≡ 0 = ap feed_at (drop_more xs k 0 inside) ∙ ap (λ s. cond s 0 (feed_at (drop (k + 1) xs) + 1)) is.1 in
    omega (arith, before, feed)

pub first_within : (xs : List ℕ) (found : Option ℕ) → IsFirstByte (is_byte 10) xs found → unwrap_or found (length xs) ≤ length xs
first_within xs None none = omega arith
first_within xs (Some k) is = omega (arith, is.0.high)
