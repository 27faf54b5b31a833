-- Bytes that spell a number are a text.
use Rattle.std.proofs.Common.{◌≡◌, ℕ, zero, suc, nat_le, ◌<◌, Bool, true, false, List, [], ◌∷◌, None, refl, arith}
use Rattle.std.proofs.lemmas.Bool.{and_parts, leb-true}
use Rattle.std.specs.Char.{is_ascii_digit}
use Rattle.std.proofs.lemmas.Str.{IsUtf8-from_ascii}
use Rattle.std.specs.Str.{IsUtf8, IsAscii, all_ascii_digits}
use Rattle.tools.specs.Numbers.{is_decimal}
use Rattle.i2c_top.specs.Numbers.{is_numeral, number_named}

digit-low : (c : ℕ) → is_ascii_digit c ≡ true → c < 128
digit-low c is = let high = leb-true c 57 (and_parts (nat_le 48 c) (nat_le c 57) is).1 in omega (arith, high)

ascii-of : (digits : List ℕ) → all_ascii_digits digits ≡ true → IsAscii digits
ascii-of [] h i = omega arith
ascii-of (c ∷ cs) h zero = digit-low c (and_parts (is_ascii_digit c) (all_ascii_digits cs) h).0
ascii-of (c ∷ cs) h (suc i) = ascii-of cs (and_parts (is_ascii_digit c) (all_ascii_digits cs) h).1 i

-- bytes that aren't a text name no number
pub unread-none : (low high : ℕ) (digits : List ℕ) → (IsUtf8 digits → ⊥) → number_named low high digits ≡ None
unread-none low high digits unread = by (is_numeral digits) refl
  where
    by : (b : Bool) → is_numeral digits ≡ b → number_named low high digits ≡ None
    by true is = absurd (unread (IsUtf8-from_ascii digits (ascii-of digits (and_parts (is_decimal digits) (all_ascii_digits digits) is).1)))
    by false is = rw is refl
