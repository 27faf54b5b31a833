-- A set of lines as a tree: what may end here, and what may follow each word.
use Rattle.std.specs.Prelude.{⊤, ◌≡◌, ℕ, zero, suc, ◌+◌, ◌≤◌, Bool, true, false, List, [], ◌∷◌, ◌++◌, length, take, Option, Some, None, Result, Ok, Err, if◌then◌else◌}

abbrev pub Word : Type 0
Word = List ℕ

pub data LineSet (A : Type 0) : Type 0 where
  nothing : LineSet A
  node : (ends : Option A) → (next : Word → LineSet A) → LineSet A

-- the words are a line of the set, and mean a
abbrev pub IsLine : {A : Type 0} → LineSet A → List Word → A → Type 0
IsLine nothing ws a = ⊥
IsLine (node ends next) [] a = ends ≡ Some a
IsLine (node ends next) (w ∷ ws) a = IsLine (next w) ws a

-- the words begin some line
pub record Begins {A : Type 0} (g : LineSet A) (ws : List Word) : Type 0 where
  pub rest : List Word
  pub value : A
  pub whole : IsLine g (ws ++ rest) value

-- k words are the longest front of these that begins some line
pub record IsLongest {A : Type 0} (g : LineSet A) (ws : List Word) (k : ℕ) : Type 0 where
  pub within : k ≤ length ws
  pub begins : Begins g (take k ws)
  pub most : (j : ℕ) → j ≤ length ws → Begins g (take j ws) → j ≤ k

-- some line may go on here
abbrev pub goes_on : {A : Type 0} → LineSet A → Bool
goes_on nothing = false
goes_on (node ends next) = true

abbrev pub or_refused : {A : Type 0} → Option A → ℕ → Result A ℕ
or_refused None i = Err i
or_refused (Some a) i = Ok a

-- what the words from place i on mean, or the place where no line goes on
abbrev pub follow_words : {A : Type 0} → LineSet A → ℕ → List Word → Result A ℕ
follow_words nothing i ws = Err i
follow_words (node ends next) i [] = or_refused ends i
follow_words (node ends next) i (w ∷ ws) = if goes_on (next w) then follow_words (next w) (i + 1) ws else Err i

-- no line goes on after so many words
abbrev pub IsWithin : {A : Type 0} → ℕ → LineSet A → Type 0
IsWithin n nothing = ⊤
IsWithin zero (node ends next) = (w : Word) → goes_on (next w) ≡ false
IsWithin (suc n) (node ends next) = (w : Word) → IsWithin n (next w)
