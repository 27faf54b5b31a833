-- A number in a word: decimal, where several digits don't begin with 0, or `0x` and hexadecimal digits in either case.
use Rattle.std.specs.Prelude.{ℕ, ◌+◌, ◌-◌, ◌*◌, ◌==◌, nat_lt, nat_le, Bool, true, false, not, ◌&&◌, ◌||◌, List, [], ◌∷◌, length, drop, slice_index, Option, Some, None, if◌then◌else◌, option_and_then}

-- the value of a digit, in decimal or in hexadecimal
abbrev pub decimal_digit : ℕ → Option ℕ
decimal_digit b = if nat_le 48 b && nat_le b 57 then Some (b - 48) else None

abbrev pub hexadecimal_digit : ℕ → Option ℕ
hexadecimal_digit b =
    if nat_le 48 b && nat_le b 57 then Some (b - 48)
    else if nat_le 97 b && nat_le b 102 then Some (b - 87)
    else if nat_le 65 b && nat_le b 70 then Some (b - 55)
    else None

abbrev pub digit_of : Bool → ℕ → Option ℕ
digit_of hexadecimal b = if hexadecimal then hexadecimal_digit b else decimal_digit b

abbrev pub base_of : Bool → ℕ
base_of hexadecimal = if hexadecimal then 16 else 10

-- digits after a value so far
abbrev pub digits_on : Bool → ℕ → List ℕ → Option ℕ
digits_on hexadecimal n [] = Some n
digits_on hexadecimal n (b ∷ bs) = option_and_then (λ d. digits_on hexadecimal (n * base_of hexadecimal + d) bs) (digit_of hexadecimal b)

abbrev pub is_hexadecimal : List ℕ → Bool
is_hexadecimal w = nat_lt 2 (length w) && ((slice_index w 0 == 48) && (slice_index w 1 == 120))

abbrev pub is_decimal : List ℕ → Bool
is_decimal w = nat_lt 0 (length w) && (not (slice_index w 0 == 48) || (length w == 1))

abbrev pub number_in_word : List ℕ → Option ℕ
number_in_word w =
    if is_hexadecimal w then digits_on true 0 (drop 2 w)
    else if is_decimal w then digits_on false 0 w
    else None

-- a number from low to high
abbrev pub within : ℕ → ℕ → Option ℕ → Option ℕ
within low high n = option_and_then (λ v. if nat_le low v && nat_le v high then Some v else None) n

abbrev pub number_in : ℕ → ℕ → List ℕ → Option ℕ
number_in low high w = within low high (number_in_word w)
