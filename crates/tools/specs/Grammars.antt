-- How a set of lines is written, and how its lines are read. No set that is written so has a dead end.
use Rattle.std.specs.Prelude.{◌≡◌, ℕ, ◌+◌, List, Option, Some, None, Result, Ok, Err, if◌then◌else◌}
use Rattle.std.specs.Str.{bytes_eq}
use Rattle.tools.specs.LineSets.{Word, LineSet, nothing, node}
use Rattle.tools.specs.Readers.{◌>>=◌, one_at, is_at, is_past, over_at}

-- a class of words, what each of them means, and one of them
pub record Class (B : Type 0) : Type 0 where
  pub of : Word → Option B
  pub sample : Word
  pub means : B
  pub fits : of sample ≡ Some means

-- what may follow a place in a line
pub data Grammar (A : Type 0) : Type 1 where
  -- nothing, and the line means a
  ends : A → Grammar A
  -- that very word, and then the rest
  word : Word → Grammar A → Grammar A
  -- the same, or else another line
  word_or : Word → Grammar A → Grammar A → Grammar A
  -- a word of a class, and then the rest for what it means
  class : {B : Type 0} → Class B → (B → Grammar A) → Grammar A
  -- nothing, and then the line means a, or else the rest
  maybe : A → Grammar A → Grammar A

-- what a line means that ends where a set begins, and what may follow each word there
abbrev pub meaning_at_end : {A : Type 0} → LineSet A → Option A
meaning_at_end nothing = None
meaning_at_end (node e f) = e

abbrev pub after_word : {A : Type 0} → LineSet A → Word → LineSet A
after_word nothing w = nothing
after_word (node e f) w = f w

abbrev pub going_on : {A B : Type 0} → (B → LineSet A) → Option B → LineSet A
going_on k None = nothing
going_on k (Some b) = k b

-- the lines of a grammar
abbrev pub line_set : {A : Type 0} → Grammar A → LineSet A
line_set (ends a) = node (Some a) (λ w. nothing)
line_set (word text g) = node None (λ w. if bytes_eq w text then line_set g else nothing)
line_set (word_or text g h) = node (meaning_at_end (line_set h)) (λ w. if bytes_eq w text then line_set g else after_word (line_set h) w)
line_set (class c k) = node None (λ w. going_on (λ b. line_set (k b)) (c.of w))
line_set (maybe a g) = node (Some a) (after_word (line_set g))

-- what the words from place i on mean, or the place of the first that is refused: they are read from left to right
abbrev pub read_at : {A : Type 0} → Grammar A → List Word → ℕ → Result A ℕ
read_at (ends a) ws i = over_at a ws i
read_at (word text g) ws i = if is_at text ws i then read_at g ws (i + 1) else Err i
read_at (word_or text g h) ws i = if is_at text ws i then read_at g ws (i + 1) else read_at h ws i
read_at (class c k) ws i = one_at c.of ws i >>= λ b. read_at (k b) ws (i + 1)
read_at (maybe a g) ws i = if is_past ws i then Ok a else read_at g ws i
