-- Which reads of a shelf in memory fail.
use Rattle.std.specs.Prelude.{ℕ, ◌^◌, nat_le, Bool, false, ◌||◌, not, List, Option, Some, None, String, Vec, length}
use Rattle.std.specs.Option.{option_map}
use Rattle.std.specs.BTreeMap.{BTreeMap, get_by_text}
use Rattle.i2c_outside.specs.Sinks.{is_listed}

-- the bytes of a file by its name, where there is such a file
abbrev pub held : {Y Z : Type 0} → BTreeMap (String Y) (Vec ℕ Z) → List ℕ → Option (List ℕ)
held files name = option_map (λ v. v.items) (get_by_text files name)

-- there is such a file, and it isn't too large
abbrev pub is_fit : Option (List ℕ) → Bool
is_fit None = false
is_fit (Some bytes) = nat_le (length bytes) (2 ^ 28)

-- a read fails where its number is listed, or there is no fit file
abbrev pub is_refused : List ℕ → ℕ → Option (List ℕ) → Bool
is_refused fails number file = is_listed fails number || not (is_fit file)
