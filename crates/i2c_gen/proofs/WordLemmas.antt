-- Words with one space between each two are the words of their line, and lines with a line feed after each are the lines of their
-- text. The inductions go over the bytes of a word, and over the words.
use Rattle.std.proofs.Common.{◌≡◌, ℕ, Bool, true, false, cond, List, [], ◌∷◌, ◌++◌, map, refl, ap, ◌∙◌, append_assoc, arith}
use Rattle.std.specs.Prelude.{◌==◌, ◌&&◌, not, nat_lt}
use Rattle.std.specs.List.{flat_map}
use Rattle.std.proofs.lemmas.Bool.{and_parts, and_from}
use Rattle.std.proofs.lemmas.Bool.Decides.{nat_tests}
use Rattle.tools.specs.Words.{begins_with_word, onto_first}
use Rattle.tools.specs.Splits.{is_blank, words_of, lines_of, joined_words, behind_space, begins_feed}

-- no space, no tab, no line feed and no carriage return is among these
abbrev pub has_no_gap : List ℕ → Bool
has_no_gap [] = true
has_no_gap (b ∷ bs) = nat_lt 32 b && has_no_gap bs

-- a space may be among these
abbrev pub is_one_line : List ℕ → Bool
is_one_line [] = true
is_one_line (b ∷ bs) = nat_lt 31 b && is_one_line bs

abbrev pub is_word : List ℕ → Bool
is_word [] = false
is_word (b ∷ bs) = nat_lt 32 b && has_no_gap bs

abbrev pub are_words : List (List ℕ) → Bool
are_words [] = true
are_words (w ∷ ws) = is_word w && are_words ws

no_blank : (b : ℕ) → nat_lt 32 b ≡ true → is_blank b ≡ false
no_blank b h = grind (arith, nat_tests)

word_then : (b : ℕ) (bs rest : List ℕ) → nat_lt 32 b ≡ true → has_no_gap bs ≡ true → begins_with_word is_blank rest ≡ false
    → words_of (b ∷ (bs ++ rest)) ≡ (b ∷ bs) ∷ words_of rest
word_then b [] rest h k over =
    ap (λ t. cond t (words_of rest) (cond (begins_with_word is_blank rest) (onto_first b (words_of rest)) ((b ∷ []) ∷ words_of rest)))
    (no_blank b h)
    ∙ ap (λ t. cond t (onto_first b (words_of rest)) ((b ∷ []) ∷ words_of rest)) over
word_then b (c ∷ cs) rest h k over =
    let p = and_parts (nat_lt 32 c) (has_no_gap cs) k in
    let more : List (List ℕ) = words_of (c ∷ (cs ++ rest)) in
    ap (λ t. cond t more (cond (begins_with_word is_blank (c ∷ (cs ++ rest))) (onto_first b more) ((b ∷ []) ∷ more))) (no_blank b h)
    ∙ ap (λ t. cond (not t) (onto_first b more) ((b ∷ []) ∷ more)) (no_blank c p.0)
    ∙ ap (onto_first b) (word_then c cs rest p.0 p.1 over)

spaced_over : (ws : List (List ℕ)) → begins_with_word is_blank (flat_map behind_space ws) ≡ false
spaced_over [] = refl
spaced_over (w ∷ ws) = refl

words_behind : (ws : List (List ℕ)) → are_words ws ≡ true → words_of (flat_map behind_space ws) ≡ ws
words_behind [] h = refl
words_behind ([] ∷ ws) h = absurd cc
words_behind ((b ∷ bs) ∷ ws) h =
    let p = and_parts (is_word (b ∷ bs)) (are_words ws) h in
    let q = and_parts (nat_lt 32 b) (has_no_gap bs) p.0 in
    word_then b bs (flat_map behind_space ws) q.0 q.1 (spaced_over ws) ∙ ap (λ x. (b ∷ bs) ∷ x) (words_behind ws p.1)

pub words_of-joined : (ws : List (List ℕ)) → are_words ws ≡ true → words_of (joined_words ws) ≡ ws
words_of-joined [] h = refl
words_of-joined ([] ∷ ws) h = absurd cc
words_of-joined ((b ∷ bs) ∷ ws) h = words_behind ((b ∷ bs) ∷ ws) h

-- ---- lines

onto_line : (b : ℕ) (feeds : Bool) (line : List ℕ) (rest : List (List ℕ)) → nat_lt 31 b ≡ true
    → cond (b == 10) ([] ∷ line ∷ rest) (cond ((b == 13) && feeds) (line ∷ rest) (onto_first b (line ∷ rest))) ≡ (b ∷ line) ∷ rest
onto_line b feeds line rest h =
    let feed : (b == 10) ≡ false = grind (arith, nat_tests) in
    let back : (b == 13) ≡ false = grind (arith, nat_tests) in
    ap (λ t. cond t ([] ∷ line ∷ rest) (cond ((b == 13) && feeds) (line ∷ rest) ((b ∷ line) ∷ rest))) feed
    ∙ ap (λ t. cond (t && feeds) (line ∷ rest) ((b ∷ line) ∷ rest)) back

pub lines_of-append : (line rest : List ℕ) → is_one_line line ≡ true → lines_of (line ++ 10 ∷ rest) ≡ line ∷ lines_of rest
lines_of-append [] rest h = refl
lines_of-append (b ∷ bs) rest h =
    let p = and_parts (nat_lt 31 b) (is_one_line bs) h in
    let more : List ℕ = bs ++ 10 ∷ rest in
    ap (λ ls. cond (b == 10) ([] ∷ ls) (cond ((b == 13) && begins_feed more) ls (onto_first b ls))) (lines_of-append bs rest p.1)
    ∙ onto_line b (begins_feed more) bs (lines_of rest) p.0

-- a line feed after it
abbrev pub ended_line : List ℕ → List ℕ
ended_line line = line ++ 10 ∷ []

pub lines_of-flat_map : (line : ℕ → List ℕ) → ((n : ℕ) → is_one_line (line n) ≡ true) → (ns : List ℕ)
    → lines_of (flat_map (λ n. ended_line (line n)) ns) ≡ map line ns
lines_of-flat_map line h [] = refl
lines_of-flat_map line h (n ∷ ns) =
    ap lines_of (append_assoc (line n) (10 ∷ []) (flat_map (λ m. ended_line (line m)) ns))
    ∙ lines_of-append (line n) (flat_map (λ m. ended_line (line m)) ns) (h n)
    ∙ ap (λ ls. line n ∷ ls) (lines_of-flat_map line h ns)

-- ---- a line of words is one line

one_line-append : (a b : List ℕ) → is_one_line a ≡ true → is_one_line b ≡ true → is_one_line (a ++ b) ≡ true
one_line-append [] b p q = q
one_line-append (c ∷ cs) b p q =
    let k = and_parts (nat_lt 31 c) (is_one_line cs) p in
    and_from (nat_lt 31 c) (is_one_line (cs ++ b)) k.0 (one_line-append cs b k.1 q)

more_than : (b : ℕ) → nat_lt 32 b ≡ true → nat_lt 31 b ≡ true
more_than b h = grind (arith, nat_tests)

gapless_line : (bs : List ℕ) → has_no_gap bs ≡ true → is_one_line bs ≡ true
gapless_line [] h = refl
gapless_line (b ∷ bs) h =
    let k = and_parts (nat_lt 32 b) (has_no_gap bs) h in
    and_from (nat_lt 31 b) (is_one_line bs) (more_than b k.0) (gapless_line bs k.1)

word_line : (w : List ℕ) → is_word w ≡ true → is_one_line w ≡ true
word_line [] h = absurd cc
word_line (b ∷ bs) h = gapless_line (b ∷ bs) h

line_behind : (ws : List (List ℕ)) → are_words ws ≡ true → is_one_line (flat_map behind_space ws) ≡ true
line_behind [] h = refl
line_behind (w ∷ ws) h =
    let k = and_parts (is_word w) (are_words ws) h in
    one_line-append (32 ∷ w) (flat_map behind_space ws) (word_line w k.0) (line_behind ws k.1)

pub joined_line : (ws : List (List ℕ)) → are_words ws ≡ true → is_one_line (joined_words ws) ≡ true
joined_line [] h = refl
joined_line (w ∷ ws) h =
    let k = and_parts (is_word w) (are_words ws) h in
    one_line-append w (flat_map behind_space ws) (word_line w k.0) (line_behind ws k.1)
