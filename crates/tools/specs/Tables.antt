-- Printed tables: rows of cells, one for each number, without the spaces at a row's end.
use Rattle.std.specs.Prelude.{ℕ, zero, suc, ◌+◌, ◌==◌, List, [], ◌∷◌, ◌++◌, reverse, codes, if◌then◌else◌}
use Rattle.bus_spec.specs.Lines.{two_digits}

-- a text without the spaces at its end
abbrev pub skip_spaces : List ℕ → List ℕ
skip_spaces [] = []
skip_spaces (c ∷ cs) = if c == 32 then skip_spaces cs else c ∷ cs

abbrev pub trimmed : List ℕ → List ℕ
trimmed text = reverse (skip_spaces (reverse text))

-- the parts from 0 to n - 1, one after the other
unfoldable pub parts : {A : Type 0} → (ℕ → List A) → ℕ → List A
parts f zero = []
parts f (suc n) = parts f n ++ f n

-- the numbers over the cells of a row
abbrev pub heading : List ℕ
heading = codes "     0  1  2  3  4  5  6  7  8  9  a  b  c  d  e  f"

-- a row begins with the number of its first cell, and its cells count from there
abbrev pub row_front : ℕ → List ℕ
row_front row = two_digits row ++ codes ":"

abbrev pub in_row : (ℕ → List ℕ) → ℕ → ℕ → List ℕ
in_row cell row c = cell (row + c)
