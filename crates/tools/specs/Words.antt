-- Words: the longest runs of bytes with no gap in them.
use Rattle.std.specs.Prelude.{ℕ, ◌+◌, nat_lt, Bool, false, not, List, [], ◌∷◌, length, take, drop, Option, Some, None, if◌then◌else◌}

-- a text begins with a word, where its first byte is none of the gaps
abbrev pub begins_with_word : (ℕ → Bool) → List ℕ → Bool
begins_with_word is_gap [] = false
begins_with_word is_gap (b ∷ bs) = not (is_gap b)

-- a byte in front of the first piece, or a piece of its own
abbrev pub onto_first : ℕ → List (List ℕ) → List (List ℕ)
onto_first b [] = (b ∷ []) ∷ []
onto_first b (p ∷ ps) = (b ∷ p) ∷ ps

-- words stand between gaps
abbrev pub words_between : (ℕ → Bool) → List ℕ → List (List ℕ)
words_between is_gap [] = []
words_between is_gap (b ∷ bs) =
    if is_gap b then words_between is_gap bs
    else if begins_with_word is_gap bs then onto_first b (words_between is_gap bs)
    else (b ∷ []) ∷ words_between is_gap bs

-- a text without the gaps with which it begins
abbrev pub behind_gaps : (ℕ → Bool) → List ℕ → List ℕ
behind_gaps is_gap [] = []
behind_gaps is_gap (b ∷ bs) = if is_gap b then behind_gaps is_gap bs else b ∷ bs

-- so many bytes stand before the first gap
abbrev pub gap_at : (ℕ → Bool) → List ℕ → ℕ
gap_at is_gap [] = 0
gap_at is_gap (b ∷ bs) = if is_gap b then 0 else gap_at is_gap bs + 1

-- what stands before the first gap, and after it, if there is one
abbrev pub before_gap : (ℕ → Bool) → List ℕ → List ℕ
before_gap is_gap text = take (gap_at is_gap text) text

abbrev pub behind_gap : (ℕ → Bool) → List ℕ → Option (List ℕ)
behind_gap is_gap text = if nat_lt (gap_at is_gap text) (length text) then Some (drop (gap_at is_gap text + 1) text) else None
