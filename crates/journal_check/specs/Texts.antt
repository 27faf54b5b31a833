-- The first line in which two texts differ.
use Rattle.std.specs.Prelude.{◌≡◌, ◌⊎◌, ℕ, ◌+◌, ◌≤◌, List, [], ◌∷◌, ◌++◌, length}
use Rattle.journal_check.specs.Forms.{Line, lines_of}

-- THE FIRST LINE, counted from n, in which two texts differ
abbrev pub FirstOther : ℕ → List Line → List Line → ℕ → Type 0
FirstOther n [] [] f = ⊥
FirstOther n (x ∷ xs) [] f = f ≡ n
FirstOther n [] (y ∷ ys) f = f ≡ n
FirstOther n (x ∷ xs) (y ∷ ys) f = ((x ≡ y) × FirstOther (n + 1) xs ys f) ⊎ ((x ≡ y → ⊥) × (f ≡ n))

-- the last byte of a text that stands behind this one
abbrev pub last_byte : ℕ → List ℕ → ℕ
last_byte b [] = b
last_byte b (c ∷ text) = last_byte c text

-- no line of it lacks its line feed
abbrev pub IsWhole : List ℕ → Type 0
IsWhole text = last_byte 10 text ≡ 10

-- a text goes on with these lines, and here is what is left of it, at the line of that number
pub record GoesOn (due old : List ℕ) (before : ℕ) (new : List ℕ) (number : ℕ) : Type 0 where
  pub parts : old ≡ due ++ new
  pub few : number + length new ≤ before + length old
  pub goes : (later : List ℕ) (f : ℕ) → FirstOther number (lines_of new) (lines_of later) f
      → FirstOther before (lines_of old) (lines_of (due ++ later)) f

abbrev pub GoesOtherwise : List ℕ → List ℕ → ℕ → ℕ → Type 0
GoesOtherwise due old before f = (later : List ℕ) → FirstOther before (lines_of old) (lines_of (due ++ later)) f
