-- The numbers that are listed for a root, where one more of the calls is of it, and where it is of another.
use Rattle.i2c_physics.proofs.Cited.{◌≡◌, ℕ, ◌+◌, ◌<◌, ◌++◌, List, [], ◌∷◌, length, map, take, get_or, Bool, true, false, cond, append-nil}
use Rattle.i2c_physics.proofs.Cited.{sym, ◌∙◌, ap, ◌==◌, filter, map-append, filter_more, fails_on}

module _ (calls : List (ℕ × ℕ)) (root i : ℕ) (x : ℕ × ℕ) (b : Bool) (old : List ℕ) (low : i < length calls) (is : x ≡ get_or calls i x)
    (same : b ≡ (x.0 == root)) (before : old ≡ fails_on (take i calls) root) where
  abbrev of_root : ℕ × ℕ → Bool
  of_root c = c.0 == root

  abbrev number : ℕ × ℕ → ℕ
  number c = c.1

  abbrev those : List (ℕ × ℕ)
  those = filter of_root (take i calls)

  one_more : (c : Bool) → b ≡ c → map number (those ++ cond c (x ∷ []) []) ≡ fails_on (take (i + 1) calls) root
  one_more c known =
      ap (λ (h : Bool). map number (those ++ cond h (x ∷ []) [])) (sym known ∙ same)
      ∙ ap (λ (y : ℕ × ℕ). map number (those ++ cond (of_root y) (y ∷ []) [])) is
      ∙ ap (map number) (sym (filter_more of_root calls i x low))

  pub listed-more : (new : List ℕ) → b ≡ true → new ≡ old ++ x.1 ∷ [] → new ≡ fails_on (take (i + 1) calls) root
  listed-more new listed grown =
      grown ∙ ap (λ (ns : List ℕ). ns ++ x.1 ∷ []) before ∙ sym (map-append number those (x ∷ [])) ∙ one_more true listed

  pub unlisted-more : b ≡ false → old ≡ fails_on (take (i + 1) calls) root
  unlisted-more other = before ∙ ap (map number) (sym (append-nil those)) ∙ one_more false other
