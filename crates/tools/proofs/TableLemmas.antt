-- Spaces at the end, one by one, and of the last row alone; one part more; and each row is a line of a section.
use Rattle.tools.proofs.Cited.{◌≡◌, ℕ, zero, suc, ◌+◌, List, [], ◌∷◌, ◌++◌, get_or, true, false, cond, append_assoc, append-nil, refl, sym}
use Rattle.tools.proofs.Cited.{ap, subst, ◌∙◌, add-one, arith, codes, All, ◌==◌, ◌||◌, flat_map, or_parts, All-nil, All-cons, All-append}
use Rattle.tools.proofs.Cited.{two_digits, line_ended, IsLine, IsSectionLine, line-append, two_digits-line, trimmed}
use Rattle.std.proofs.Common.{reverse}
use Rattle.std.proofs.lemmas.List.{reverse-append, reverse-reverse}
use Rattle.std.proofs.lemmas.List.Concat.{flat_map-append}
use Rattle.tools.specs.Tables.{skip_spaces, parts, row_front}

pub trimmed_space : (xs : List ℕ) → trimmed (xs ++ 32 ∷ []) ≡ trimmed xs
trimmed_space xs = rw (reverse-append xs (32 ∷ []))

turned_back : (xs : List ℕ) (x : ℕ) → reverse (x ∷ reverse xs) ≡ xs ++ x ∷ []
turned_back xs x = sym (ap reverse (reverse-append xs (x ∷ []))) ∙ reverse-reverse (xs ++ x ∷ [])

pub trimmed_done : (xs : List ℕ) (x : ℕ) → (x == 32) ≡ false → trimmed (xs ++ x ∷ []) ≡ xs ++ x ∷ []
trimmed_done xs x other = rw (reverse-append xs (x ∷ []), other) (turned_back xs x)

skip_front : (xs : List ℕ) (sign : ℕ) (ys zs : List ℕ) → (sign == 32) ≡ false → skip_spaces (xs ++ sign ∷ (ys ++ zs)) ≡ skip_spaces
    (xs ++ sign ∷ ys) ++ zs
skip_front [] sign ys zs other = ap (λ b. cond b (skip_spaces (ys ++ zs)) (sign ∷ (ys ++ zs))) other
    ∙ sym (ap (λ b. cond b (skip_spaces ys) (sign ∷ ys) ++ zs) other)
skip_front (x ∷ xs) sign ys zs other =
    elim (x == 32) as (λ b. cond b (skip_spaces (xs ++ sign ∷ (ys ++ zs))) (x ∷ (xs ++ sign ∷ (ys ++ zs))) ≡ cond b
    (skip_spaces (xs ++ sign ∷ ys)) (x ∷ (xs ++ sign ∷ ys)) ++ zs) [
      | true ↦ skip_front xs sign ys zs other
      | false ↦ ap (λ l. x ∷ l) (sym (append_assoc xs (sign ∷ ys) zs))
    ]

turned : (front back : List ℕ) (sign : ℕ) → reverse (front ++ sign ∷ back) ≡ reverse back ++ sign ∷ reverse front
turned front back sign = reverse-append front (sign ∷ back) ∙ ap (λ l. l ++ reverse front) (reverse-append (sign ∷ []) back)
    ∙ append_assoc (reverse back) (sign ∷ []) (reverse front)

trims_alone : (o front back : List ℕ) (sign : ℕ) → (sign == 32) ≡ false → trimmed (o ++ (front ++ sign ∷ back)) ≡ o ++ trimmed
    (front ++ sign ∷ back)
trims_alone o front back sign other =
    let row : List ℕ = front ++ sign ∷ back in
    let whole : reverse (o ++ row) ≡ reverse back ++ sign ∷ (reverse front ++ reverse o) =
    reverse-append o row ∙ ap (λ l. l ++ reverse o) (turned front back sign) ∙ append_assoc (reverse back) (sign ∷ reverse front)
    (reverse o) in
    ap (λ l. reverse (skip_spaces l)) whole
    ∙ ap reverse (skip_front (reverse back) sign (reverse front) (reverse o) other)
    ∙ reverse-append (skip_spaces (reverse back ++ sign ∷ reverse front)) (reverse o)
    ∙ ap (λ l. l ++ reverse (skip_spaces (reverse back ++ sign ∷ reverse front))) (reverse-reverse o)
    ∙ ap (λ l. o ++ reverse (skip_spaces l)) (sym (turned front back sign))

-- a row after other text is trimmed by itself
pub row_trimmed : (o : List ℕ) (row : ℕ) (back : List ℕ) → trimmed (o ++ (row_front row ++ back)) ≡ o ++ trimmed (row_front row ++ back)
row_trimmed o row back = trims_alone o (two_digits row) back 58 refl

pub parts_none : {A : Type 0} (f : ℕ → List A) → parts f 0 ≡ []
unfolding parts
parts_none f = refl

pub parts_more : {A : Type 0} (f : ℕ → List A) (n : ℕ) → parts f (n + 1) ≡ parts f n ++ f n
unfolding parts
parts_more f n = rw add-one

pub ruleset part_steps = (parts_none, parts_more, append_assoc, append-nil)

-- lines after the first one, which are one more at each turn
pub lines_none : (h : List ℕ) (f : ℕ → List (List ℕ)) → flat_map line_ended (h ∷ parts f 0) ≡ h ++ 10 ∷ []
unfolding parts
lines_none h f = append-nil (line_ended h)

pub lines_more : (h : List ℕ) (f : ℕ → List (List ℕ)) (n : ℕ) → flat_map line_ended (h ∷ parts f (n + 1)) ≡ flat_map line_ended
    (h ∷ parts f n) ++ flat_map line_ended (f n)
lines_more h f n = rw (parts_more f n) (ap (λ t. line_ended h ++ t) (flat_map-append line_ended (parts f n) (f n))
    ∙ sym (append_assoc (line_ended h) (flat_map line_ended (parts f n)) (flat_map line_ended (f n))))

-- a row with its cells is trimmed and ended
pub row_ended : (o cells a b c d : List ℕ) (row : ℕ) → a ≡ o ++ row_front row → b ≡ a ++ cells → c ≡ trimmed b → d ≡ c ++ 10 ∷ []
    → d ≡ o ++ line_ended (trimmed (row_front row ++ cells))
row_ended o cells a b c d row ea eb ec ed =
    let whole : b ≡ o ++ (row_front row ++ cells) = eb ∙ ap (λ t. t ++ cells) ea ∙ append_assoc o (row_front row) cells in
    let cut : c ≡ o ++ trimmed (row_front row ++ cells) = ec ∙ ap trimmed whole ∙ row_trimmed o row cells in
    ed ∙ ap (λ t. t ++ 10 ∷ []) cut ∙ append_assoc o (trimmed (row_front row ++ cells)) (10 ∷ [])

-- one row more after a text that has the first lines
pub line_next : (o h x now new : List ℕ) (f : ℕ → List (List ℕ)) (n : ℕ) → f n ≡ x ∷ [] → now ≡ o ++ flat_map line_ended (h ∷ parts f n)
    → new ≡ now ++ line_ended x → new ≡ o ++ flat_map line_ended (h ∷ parts f (n + 1))
line_next o h x now new f n is same next =
    next ∙ ap (λ t. t ++ line_ended x) same ∙ append_assoc o (flat_map line_ended (h ∷ parts f n)) (line_ended x)
    ∙ ap (λ t. o ++ (flat_map line_ended (h ∷ parts f n) ++ t)) (sym (append-nil (line_ended x))
    ∙ ap (λ (l : List (List ℕ)). flat_map line_ended l) (sym is))
    ∙ ap (λ t. o ++ t) (sym (lines_more h f n))

-- so it is where no line stands above the rows
pub rows_next : (o x now new : List ℕ) (f : ℕ → List (List ℕ)) (n : ℕ) → f n ≡ x ∷ [] → now ≡ o ++ flat_map line_ended (parts f n)
    → new ≡ now ++ line_ended x → new ≡ o ++ flat_map line_ended (parts f (n + 1))
rows_next o x now new f n is same next =
    let more : flat_map line_ended (parts f (n + 1)) ≡ flat_map line_ended (parts f n) ++ line_ended x =
    ap (λ (l : List (List ℕ)). flat_map line_ended l) (parts_more f n ∙ ap (λ (l : List (List ℕ)). parts f n ++ l) is)
    ∙ flat_map-append line_ended (parts f n) (x ∷ []) ∙ ap (λ t. flat_map line_ended (parts f n) ++ t) (append-nil (line_ended x)) in
    next ∙ ap (λ t. t ++ line_ended x) same ∙ append_assoc o (flat_map line_ended (parts f n)) (line_ended x) ∙ ap (λ t. o ++ t) (sym more)

-- ---- each row is a line of a section

skip_keeps : (xs : List ℕ) (sign : ℕ) (ys : List ℕ) → (sign == 32) ≡ false
    → skip_spaces (xs ++ sign ∷ ys) ≡ skip_spaces xs ++ sign ∷ ys
skip_keeps [] sign ys other = ap (λ b. cond b (skip_spaces ys) (sign ∷ ys)) other
skip_keeps (x ∷ xs) sign ys other =
    elim (x == 32) as
    (λ b. cond b (skip_spaces (xs ++ sign ∷ ys)) (x ∷ (xs ++ sign ∷ ys)) ≡ cond b (skip_spaces xs) (x ∷ xs) ++ sign ∷ ys) [
      | true ↦ skip_keeps xs sign ys other
      | false ↦ refl
    ]

-- a text is trimmed after any sign in it that is no space
trimmed_behind : (front back : List ℕ) (sign : ℕ) → (sign == 32) ≡ false
    → trimmed (front ++ sign ∷ back) ≡ front ++ sign ∷ trimmed back
trimmed_behind front back sign other =
    ap (λ l. reverse (skip_spaces l)) (turned front back sign)
    ∙ ap reverse (skip_keeps (reverse back) sign (reverse front) other)
    ∙ turned (skip_spaces (reverse back)) (reverse front) sign
    ∙ ap (λ l. l ++ sign ∷ trimmed back) (reverse-reverse front)

-- a trimmed row begins with its number
pub row_begins : (row : ℕ) (back : List ℕ) → trimmed (row_front row ++ back) ≡ row_front row ++ trimmed back
row_begins row back = trimmed_behind (two_digits row) back 58 refl

turned_line : (xs : List ℕ) → IsLine xs → IsLine (reverse xs)
turned_line [] h = refl
turned_line (x ∷ xs) h =
    let halves = or_parts _ _ h in
    let one : IsLine (x ∷ []) = ap (λ b. b || false) halves.0 in
    subst IsLine (sym (reverse-append (x ∷ []) xs)) (line-append (reverse xs) (x ∷ []) (turned_line xs halves.1) one)

skipped_line : (xs : List ℕ) → IsLine xs → IsLine (skip_spaces xs)
skipped_line [] h = refl
skipped_line (x ∷ xs) h =
    elim (x == 32) as (λ b. IsLine (cond b (skip_spaces xs) (x ∷ xs))) [
      | true ↦ skipped_line xs (or_parts _ _ h).1
      | false ↦ h
    ]

trimmed_line : (xs : List ℕ) → IsLine xs → IsLine (trimmed xs)
trimmed_line xs h = turned_line (skip_spaces (reverse xs)) (skipped_line (reverse xs) (turned_line xs h))

-- parts of a line
pub parts_line : (f : ℕ → List ℕ) (n : ℕ) → ((k : ℕ) → IsLine (f k)) → IsLine (parts f n)
unfolding parts
parts_line f zero h = refl
parts_line f (suc n) h = line-append (parts f n) (f n) (parts_line f n h) (h n)

-- the third sign of a row is a colon, and that of `journal` isn't
pub row_section : (row : ℕ) (back : List ℕ) → IsLine back → IsSectionLine (trimmed (row_front row ++ back))
row_section row back h = record {
  one = trimmed_line (row_front row ++ back)
      (line-append (row_front row) back (line-append (two_digits row) (codes ":") (two_digits-line row) refl) h);
  other = λ e.
      let third : get_or (row_front row ++ trimmed back) 2 0 ≡ 117 = ap (λ t. get_or t 2 0) (sym (row_begins row back) ∙ e) in
      omega (arith, third);
}

-- rows of which each is a line of a section
pub rows_section : (f : ℕ → List ℕ) (n : ℕ) → ((k : ℕ) → IsSectionLine (f k))
    → All IsSectionLine (parts (λ k. f k ∷ []) n)
unfolding parts
rows_section f zero h = All-nil IsSectionLine
rows_section f (suc n) h =
    All-append IsSectionLine (parts (λ k. f k ∷ []) n) (f n ∷ []) (rows_section f n h)
    (All-cons IsSectionLine (f n) [] (h n) (All-nil IsSectionLine))
