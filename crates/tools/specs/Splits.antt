-- A text as lines, a line as words, and words joined again.
use Rattle.std.specs.Prelude.{ℕ, ◌+◌, ◌==◌, nat_lt, length, Bool, true, false, ◌&&◌, ◌||◌, List, [], ◌∷◌, ◌++◌, if◌then◌else◌}
use Rattle.std.specs.List.{flat_map}
use Rattle.tools.specs.Words.{onto_first, words_between}

-- a space or a tab
abbrev pub is_blank : ℕ → Bool
is_blank b = (b == 32) || (b == 9)

-- the words of a line stand between spaces and tabs
abbrev pub words_of : List ℕ → List (List ℕ)
words_of line = words_between is_blank line

-- words with one space between each two
abbrev pub behind_space : List ℕ → List ℕ
behind_space w = 32 ∷ w

abbrev pub joined_words : List (List ℕ) → List ℕ
joined_words [] = []
joined_words (w ∷ ws) = w ++ flat_map behind_space ws

-- after a word nothing stands, or one space, and then the text that begins with the next word
abbrev pub is_spaced : (behind next : List ℕ) → Bool
is_spaced [] next = true
is_spaced (b ∷ bs) next = (b == 32) && (nat_lt 0 (length next) && (length bs == length next))

abbrev pub begins_feed : List ℕ → Bool
begins_feed [] = false
begins_feed (b ∷ bs) = b == 10

-- a line feed ends a line, and one carriage return directly before it is dropped; what stands behind the last line
-- feed is a line where there is something
abbrev pub lines_of : List ℕ → List (List ℕ)
lines_of [] = []
lines_of (b ∷ bs) =
    if b == 10 then [] ∷ lines_of bs
    else if (b == 13) && begins_feed bs then lines_of bs
    else onto_first b (lines_of bs)

-- how many bytes stand before the first line feed
abbrev pub feed_at : List ℕ → ℕ
feed_at [] = 0
feed_at (b ∷ bs) = if b == 10 then 0 else feed_at bs + 1
