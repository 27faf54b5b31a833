-- The first word of a text. The inductions go over its bytes.
use Rattle.tools.proofs.Cited.{◌≡◌, ℕ, ◌+◌, ◌<◌, Bool, true, false, List, [], ◌∷◌, take, drop, refl, ap, arith, cond, add-one}
use Rattle.tools.proofs.Cited.{begins_with_word, onto_first, words_between, gap_at}
use Rattle.std.proofs.Common.{not}

module _ (is_gap : ℕ → Bool) where
  -- a text that begins with a word is that word and the words after it
  glued : (s : Bool) (b m : ℕ) (bs : List ℕ) (ws : List (List ℕ)) → (s ≡ true → ws ≡ take m bs ∷ words_between is_gap (drop m bs))
      → (s ≡ false → m ≡ 0) → ws ≡ words_between is_gap bs
      → cond s (onto_first b ws) ((b ∷ []) ∷ ws) ≡ take (m + 1) (b ∷ bs) ∷ words_between is_gap (drop (m + 1) (b ∷ bs))
  glued true b m bs ws some none same = rw add-one (ap (onto_first b) (some refl))
  glued false b m bs ws some none same = rw (add-one, none refl) (ap (λ x. (b ∷ []) ∷ x) same)

  none_len : (bs : List ℕ) → begins_with_word is_gap bs ≡ false → gap_at is_gap bs ≡ 0
  none_len [] e = refl
  none_len (b ∷ bs) e =
      (elim (is_gap b) as (λ s. not s ≡ false → cond s 0 (gap_at is_gap bs + 1) ≡ 0) [ true ↦ λ h. refl | false ↦ λ h. cc ]) e

  pub words_first : (xs : List ℕ) → begins_with_word is_gap xs ≡ true
      → words_between is_gap xs ≡ take (gap_at is_gap xs) xs ∷ words_between is_gap (drop (gap_at is_gap xs) xs)
  words_first [] e = cc
  words_first (b ∷ bs) e =
      (elim (is_gap b) as (λ s. not s ≡ true
      → cond s (words_between is_gap bs)
      (cond (begins_with_word is_gap bs) (onto_first b (words_between is_gap bs)) ((b ∷ []) ∷ words_between is_gap bs))
      ≡ take (cond s 0 (gap_at is_gap bs + 1)) (b ∷ bs) ∷ words_between is_gap (drop (cond s 0 (gap_at is_gap bs + 1)) (b ∷ bs))) [
        | true ↦ λ h. cc
        | false ↦ λ h. glued (begins_with_word is_gap bs) b (gap_at is_gap bs) bs (words_between is_gap bs) (words_first bs)
            (none_len bs) refl
      ]) e

  pub some_len : (xs : List ℕ) → begins_with_word is_gap xs ≡ true → 0 < gap_at is_gap xs
  some_len [] e = cc
  some_len (b ∷ bs) e =
      (elim (is_gap b) as (λ s. not s ≡ true → 0 < cond s 0 (gap_at is_gap bs + 1)) [ true ↦ λ h. cc | false ↦ λ h. omega arith ]) e
