-- The words of a command line, as the names of its files.
use Rattle.std.specs.Prelude.{◌≡◌, ℕ, ◌+◌, ◌<◌, ◌==◌, Bool, false, not, List, [], ◌∷◌, length, drop, slice_get}
use Rattle.std.specs.List.{list_all}

-- a word that may be a name isn't empty, and doesn't begin with `-`
abbrev pub is_name : List ℕ → Bool
is_name [] = false
is_name (b ∷ bs) = not (b == 45)

-- all words after the first may be
abbrev pub are_names : List (List ℕ) → Bool
are_names words = list_all is_name (drop 1 words)

-- from this place on the words are these names
abbrev pub AreNamesFrom : ℕ → List (List ℕ) → List (List ℕ) → Type 0
AreNamesFrom place words names = (k : ℕ) → k < length names → slice_get words (place + k) ≡ slice_get names k
