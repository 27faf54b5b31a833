-- The lines of an input that are still to come, where its bytes are known.
use Rattle.std.specs.Prelude.{◌≡◌, Bool, true, false, ℕ, List, [], ◌∷◌, Option, Some}
use Rattle.std.specs.Option.{option_map}
use Rattle.tools.specs.Splits.{lines_of}

-- the lines of the bytes to come
abbrev pub lines_in : Option (List ℕ) → Option (List (List ℕ))
lines_in bytes = option_map lines_of bytes

-- the first of these lines, and those that are left; or that there is none
pub record IsFirst (line : List ℕ) (lines : List (List ℕ)) (now : Option (List (List ℕ))) : Type 0 where
  pub rest : List (List ℕ)
  pub left : now ≡ Some rest
  pub lines_are : lines ≡ line ∷ rest

abbrev pub IsNext : Bool → List ℕ → List (List ℕ) → Option (List (List ℕ)) → Type 0
IsNext true line lines now = IsFirst line lines now
IsNext false line lines now = lines ≡ []
