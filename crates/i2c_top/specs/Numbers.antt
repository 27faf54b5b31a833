-- A number among the words of a command line.
use Rattle.std.specs.Prelude.{ℕ, Bool, ◌&&◌, List, Option, Some, None, if◌then◌else◌}
use Rattle.std.specs.Str.{all_ascii_digits}
use Rattle.std.specs.Str.Parse.{digits_value}
use Rattle.tools.specs.Numbers.{is_decimal, within}

-- decimal digits, of which several don't begin with 0
abbrev pub is_numeral : List ℕ → Bool
is_numeral word = is_decimal word && all_ascii_digits word

-- the number that a word names, where it is from low to high
abbrev pub number_named : (low high : ℕ) → List ℕ → Option ℕ
number_named low high word = if is_numeral word then within low high (Some (digits_value 10 word)) else None
