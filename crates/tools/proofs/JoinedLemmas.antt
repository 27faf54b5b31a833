-- A line whose words have one space between each two is printed as it is.
use Rattle.tools.proofs.Cited.{◌≡◌, ℕ, ◌+◌, ◌<◌, ◌≤◌, inl, inr, Bool, true, false, cond, List, [], ◌∷◌, length, drop, refl, sym, ap, subst}
use Rattle.tools.proofs.Cited.{◌∙◌, add-one, arith, ◌==◌, ◌||◌, nat_lt, not, and_parts, or_parts, nat_tests, begins_with_word, onto_first}
use Rattle.tools.proofs.Cited.{behind_gaps, gap_at, is_blank, words_of}
use Rattle.std.specs.Prelude.{◌&&◌, if◌then◌else◌}
use Rattle.std.proofs.lemmas.Bool.Decides.{eqb_tells}
use Rattle.tools.specs.Splits.{joined_words, is_spaced}

-- words with one space between each two already, read behind a space or at the start, or after a byte of a word
abbrev pub is_joined : Bool → List ℕ → Bool
is_joined at_start [] = not at_start
is_joined at_start (b ∷ bs) =
    if b == 32 then not at_start && is_joined true bs
    else if b == 9 then false
    else is_joined false bs

-- a byte in front of the first word, and a word in front of the others
onto_joined : (b : ℕ) (w : List ℕ) (ws : List (List ℕ)) → joined_words (onto_first b (w ∷ ws)) ≡ b ∷ joined_words (w ∷ ws)
onto_joined b w ws = refl

record IsSome (ws : List (List ℕ)) : Type 0 where
  first : List ℕ
  rest : List (List ℕ)
  is : ws ≡ first ∷ rest

-- after a byte of a word, the line is its words, of which there are some
record IsSame (b : ℕ) (bs : List ℕ) : Type 0 where
  some : IsSome (words_of (b ∷ bs))
  same : joined_words (words_of (b ∷ bs)) ≡ b ∷ bs

words_by : (b : ℕ) (bs : List ℕ) → is_blank b ≡ false
    → words_of (b ∷ bs) ≡ cond (begins_with_word is_blank bs) (onto_first b (words_of bs)) ((b ∷ []) ∷ words_of bs)
words_by b bs e = ap (λ s. cond s (words_of bs) (cond (begins_with_word is_blank bs) (onto_first b (words_of bs)) ((b ∷ []) ∷ words_of bs)))
    e

word_goes_on : (b c : ℕ) (cs : List ℕ) → is_blank b ≡ false → is_blank c ≡ false → IsSame c cs → IsSame b (c ∷ cs)
word_goes_on b c cs e f h =
    let w : List ℕ = h.some.first in
    let ws : List (List ℕ) = h.some.rest in
    let all : words_of (b ∷ c ∷ cs) ≡ onto_first b (w ∷ ws) =
    words_by b (c ∷ cs) e ∙ ap (λ s. cond (not s) (onto_first b (words_of (c ∷ cs))) ((b ∷ []) ∷ words_of (c ∷ cs))) f
    ∙ ap (onto_first b) h.some.is in
    record {
      some = record { first = b ∷ w; rest = ws; is = all };
      same = ap joined_words all ∙ onto_joined b w ws ∙ ap (λ x. b ∷ joined_words x) (sym h.some.is) ∙ ap (λ x. b ∷ x) h.same;
    }

word_over : (b c : ℕ) (cs : List ℕ) → is_blank b ≡ false → is_blank c ≡ false → IsSame c cs → IsSame b (32 ∷ c ∷ cs)
word_over b c cs e f h =
    let w : List ℕ = h.some.first in
    let ws : List (List ℕ) = h.some.rest in
    let all : words_of (b ∷ 32 ∷ c ∷ cs) ≡ (b ∷ []) ∷ w ∷ ws = words_by b (32 ∷ c ∷ cs) e ∙ ap (λ x. (b ∷ []) ∷ x) h.some.is in
    record {
      some = record { first = b ∷ []; rest = w ∷ ws; is = all };
      same = ap joined_words all ∙ ap (λ x. b ∷ 32 ∷ joined_words x) (sym h.some.is) ∙ ap (λ x. b ∷ 32 ∷ x) h.same;
    }

-- a byte that is no space, where the line is as it is printed: it is none of a tab either
record IsPlain (c : ℕ) (more : Bool) : Type 0 where
  blank : is_blank c ≡ false
  follows : more ≡ true

plain_by : (c : ℕ) (spaced more : Bool) → (c == 32) ≡ false → cond (c == 32) spaced (cond (c == 9) false more) ≡ true → IsPlain c more
plain_by c spaced more e h =
    let rest : cond (c == 9) false more ≡ true = ap (λ s. cond s spaced (cond (c == 9) false more)) (sym e) ∙ h in
    (elim (c == 9) as (λ t. (c == 9) ≡ t → cond t false more ≡ true → IsPlain c more) [
      | true ↦ λ is k. absurd cc
      | false ↦ λ is k. record { blank = ap (λ x. x || (c == 9)) e ∙ is; follows = k }
    ]) refl rest

plain_start : (d : ℕ) (spaced more : Bool) → cond (d == 32) (not true && spaced) (cond (d == 9) false more) ≡ true → IsPlain d more
plain_start d spaced more h =
    (elim (d == 32) as (λ t. (d == 32) ≡ t → cond t false (cond (d == 9) false more) ≡ true → IsPlain d more) [
      | true ↦ λ is k. absurd cc
      | false ↦ λ is k. plain_by d true more is (ap (λ t. cond t true (cond (d == 9) false more)) is ∙ k)
    ]) refl h

-- what follows a byte of a word
same_behind : (b : ℕ) (bs : List ℕ) → is_blank b ≡ false → is_joined false bs ≡ true → IsSame b bs
same_behind b [] e h = record {
  some = record { first = b ∷ []; rest = []; is = words_by b [] e };
  same = ap joined_words (words_by b [] e);
}
same_behind b (c ∷ []) e h =
    (elim (c == 32) as (λ t. (c == 32) ≡ t → cond t false (cond (c == 9) false true) ≡ true → IsSame b (c ∷ [])) [
      | true ↦ λ is k. absurd cc
      | false ↦ λ is k. let p : IsPlain c true = plain_by c false true is (ap (λ t. cond t false (cond (c == 9) false true)) is ∙ k) in
          word_goes_on b c [] e p.blank (same_behind c [] p.blank refl)
    ]) refl h
same_behind b (c ∷ d ∷ ds) e h =
    elim (eqb_tells c 32) [
      | inl x ↦
          let spaced : is_joined true (d ∷ ds) ≡ true = ap
          (λ t. cond t (is_joined true (d ∷ ds)) (cond (c == 9) false (is_joined false (d ∷ ds)))) (sym x.0) ∙ h in
          let p : IsPlain d (is_joined false ds) = plain_start d (is_joined true ds) (is_joined false ds) spaced in
          subst (λ (n : ℕ). IsSame b (n ∷ d ∷ ds)) (sym x.1) (word_over b d ds e p.blank (same_behind d ds p.blank p.follows))
      | inr x ↦
          let p : IsPlain c (is_joined false (d ∷ ds)) = plain_by c (is_joined true (d ∷ ds)) (is_joined false (d ∷ ds)) x.0 h in
          word_goes_on b c (d ∷ ds) e p.blank (same_behind c (d ∷ ds) p.blank p.follows)
    ]

pub joined_same : (line : List ℕ) → is_joined true line ≡ true → joined_words (words_of line) ≡ line
joined_same [] h = refl
joined_same (b ∷ bs) h =
    let p : IsPlain b (is_joined false bs) = plain_start b (is_joined true bs) (is_joined false bs) h in
    (same_behind b bs p.blank p.follows).same

-- ---- a line is seen to be so while its words are taken off it

-- what is left of a line, which begins with a word, or is nothing
abbrev pub is_joined_from : List ℕ → Bool
is_joined_from [] = true
is_joined_from (b ∷ bs) = is_joined true (b ∷ bs)

-- a byte of a word is passed by
passed : (s : Bool) (b : ℕ) (bs : List ℕ) → is_blank b ≡ false → is_joined s (b ∷ bs) ≡ is_joined false bs
passed s b bs e =
    let p = or_parts _ _ e in
    ap (λ t. cond t (not s && is_joined true bs) (cond (b == 9) false (is_joined false bs))) p.0
    ∙ ap (λ t. cond t false (is_joined false bs)) p.1

-- and so are those up to the first blank
rest_passed : (xs : List ℕ) → is_joined false xs ≡ is_joined false (drop (gap_at is_blank xs) xs)
rest_passed [] = refl
rest_passed (b ∷ bs) =
    (elim (is_blank b) as (λ t. is_blank b ≡ t
    → is_joined false (b ∷ bs) ≡ is_joined false (drop (cond t 0 (gap_at is_blank bs + 1)) (b ∷ bs))) [
      | true ↦ λ e. refl
      | false ↦ λ e. rw add-one (passed false b bs e ∙ rest_passed bs)
    ]) refl

word_passed : (xs : List ℕ) → begins_with_word is_blank xs ≡ true → is_joined_from xs ≡ is_joined false (drop (gap_at is_blank xs) xs)
word_passed [] h = absurd cc
word_passed (b ∷ bs) h =
    (elim (is_blank b) as (λ t. is_blank b ≡ t → not t ≡ true
    → is_joined true (b ∷ bs) ≡ is_joined false (drop (cond t 0 (gap_at is_blank bs + 1)) (b ∷ bs))) [
      | true ↦ λ e k. absurd cc
      | false ↦ λ e k. rw add-one (passed true b bs e ∙ rest_passed bs)
    ]) refl h

-- where no blank was skipped, all is there
gaps_within : (xs : List ℕ) → length (behind_gaps is_blank xs) ≤ length xs
gaps_within [] = omega arith
gaps_within (b ∷ bs) =
    elim (is_blank b) as (λ t. length (cond t (behind_gaps is_blank bs) (b ∷ bs)) ≤ length (b ∷ bs)) [
      | true ↦ omega (arith, gaps_within bs)
      | false ↦ omega arith
    ]

none_skipped : (xs : List ℕ) → length (behind_gaps is_blank xs) ≡ length xs → behind_gaps is_blank xs ≡ xs
none_skipped [] h = refl
none_skipped (b ∷ bs) h =
    (elim (is_blank b) as (λ t. length (cond t (behind_gaps is_blank bs) (b ∷ bs)) ≡ length (b ∷ bs)
    → cond t (behind_gaps is_blank bs) (b ∷ bs) ≡ b ∷ bs) [
      | true ↦ λ k. absurd (omega (arith, k, gaps_within bs))
      | false ↦ λ k. refl
    ]) h

from_some : (xs : List ℕ) → 0 < length xs → is_joined_from xs ≡ is_joined true xs
from_some [] some = absurd (omega (arith, some))
from_some (b ∷ bs) some = refl

-- before the first word, where the line begins with one
pub whole_front : (line rest : List ℕ) → rest ≡ behind_gaps is_blank line → length rest ≡ length line → 0 < length rest
    → is_joined true line ≡ is_joined_from rest
whole_front line rest is same some =
    let whole : rest ≡ line = is ∙ none_skipped line (ap length (sym is) ∙ same) in
    ap (is_joined true) (sym whole) ∙ sym (from_some rest some)

-- after a word
spaced_next : (behind next : List ℕ) → next ≡ behind_gaps is_blank behind → is_spaced behind next ≡ true
    → is_joined false behind ≡ is_joined_from next
spaced_next [] next is h = sym (ap is_joined_from is)
spaced_next (b ∷ bs) next is h =
    let p = and_parts (b == 32) (nat_lt 0 (length next) && (length bs == length next)) h in
    let q = and_parts (nat_lt 0 (length next)) (length bs == length next) p.1 in
    let some : 0 < length next = grind (arith, nat_tests) in
    let same : length bs ≡ length next = grind (arith, nat_tests) in
    let blank : is_blank b ≡ true = ap (λ t. t || (b == 9)) p.0 in
    let skipped : next ≡ behind_gaps is_blank bs = is ∙ ap (λ t. cond t (behind_gaps is_blank bs) (b ∷ bs)) blank in
    let all : next ≡ bs = skipped ∙ none_skipped bs (ap length (sym skipped) ∙ sym same) in
    ap (λ t. cond t (not false && is_joined true bs) (cond (b == 9) false (is_joined false bs))) p.0
    ∙ ap (is_joined true) (sym all) ∙ sym (from_some next some)

pub word_off : (line rest behind next : List ℕ) → begins_with_word is_blank rest ≡ true → behind ≡ drop (gap_at is_blank rest) rest
    → next ≡ behind_gaps is_blank behind → is_spaced behind next ≡ true → is_joined true line ≡ is_joined_from rest
    → is_joined true line ≡ is_joined_from next
word_off line rest behind next begins is skipped spaced so =
    so ∙ word_passed rest begins ∙ ap (is_joined false) (sym is) ∙ spaced_next behind next skipped spaced
