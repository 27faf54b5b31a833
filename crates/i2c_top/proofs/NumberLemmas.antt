-- The number that a word names, where it is read as digits by the library.
use Rattle.i2c_top.proofs.Cited.{◌≡◌, ℕ, ◌<◌, ◌≤◌, ◌⊎◌, inl, inr, ◌^◌, ◌==◌, ◌&&◌, Bool, true, false, if◌then◌else◌, List, [], ◌∷◌, length}
use Rattle.i2c_top.proofs.Cited.{Result, Ok, Err, None, Some, refl, sym, ◌∙◌, ap, arith, list_all, cases_lt, and_parts, is_numeral}
use Rattle.std.proofs.Common.{nat_le, nat_lt, not, ◌||◌, leb-true, ltb-true}
use Rattle.std.specs.Prelude.{slice_index}
use Rattle.std.specs.Str.{all_ascii_digits}
use Rattle.std.specs.Char.{is_ascii_digit}
use Rattle.std.specs.Str.Parse.{ParsesUnsigned, digits_value}
use Rattle.std.specs.Result.{OkIff}
use Rattle.std.proofs.lemmas.Str.Parse.{tells_all_ascii_digits, numerals_by_value, parse_digits}
use Rattle.tools.specs.Numbers.{is_decimal, within}
use Rattle.i2c_top.specs.Numbers.{number_named}

-- digits, one after the other
pub all_digits : (word : List ℕ) → list_all is_ascii_digit word ≡ all_ascii_digits word
all_digits [] = refl
all_digits (c ∷ cs) = ap (λ (rest : Bool). is_ascii_digit c && rest) (all_digits cs)

-- a number that is too large is not from low to high
too_large : (low high n : ℕ) → high < n → within low high (Some n) ≡ None
too_large low high n large = by (nat_le n high) refl
  where
    none : (a : Bool) → (if a && false then Some n else None) ≡ None
    none true = refl
    none false = refl

    by : (b : Bool) → nat_le n high ≡ b → within low high (Some n) ≡ None
    by true is = absurd (omega (arith, large, leb-true n high is))
    by false is = ap (λ (t : Bool). if nat_le low n && t then Some n else None) is ∙ none (nat_le low n)

-- what a word names, by what it is read as
module _ (word : List ℕ) (low high : ℕ) (small : high < 2 ^ 64) (is : is_numeral word ≡ true) where
  digits : all_ascii_digits word ≡ true
  digits = (and_parts (is_decimal word) (all_ascii_digits word) is).1

  some : 0 < length word
  some = ltb-true 0 (length word) (and_parts (nat_lt 0 (length word)) (not (slice_index word 0 == 48) || (length word == 1))
      (and_parts (is_decimal word) (all_ascii_digits word) is).0).0

  numeral : number_named low high word ≡ within low high (Some (digits_value 10 word))
  numeral = ap (λ (t : Bool). if t then within low high (Some (digits_value 10 word)) else None) is

  read : {E : Type 0} (r : Result ℕ E) → ParsesUnsigned 64 10 word r → OkIff r ((0 < length word) × (digits_value 10 word < 2 ^ 64))
      (digits_value 10 word)
  read r parsed = parse_digits (numerals_by_value _ tells_all_ascii_digits) 64 word r parsed digits

  pub named_read : (E : Type 0) (n : ℕ) → ParsesUnsigned {E = E} 64 10 word (Ok n) → number_named low high word ≡ within low high (Some n)
  named_read E n parsed = numeral ∙ ap (λ (v : ℕ). within low high (Some v)) (sym (read {E = E} (Ok n) parsed).1)

  pub named_unread : {E : Type 0} (e : E) → ParsesUnsigned 64 10 word (Err e) → number_named low high word ≡ None
  named_unread e parsed = numeral ∙ too_large low high (digits_value 10 word) (by (cases_lt (digits_value 10 word) (2 ^ 64)))
    where
      by : (digits_value 10 word < 2 ^ 64) ⊎ (2 ^ 64 ≤ digits_value 10 word) → high < digits_value 10 word
      by (inl fits) = absurd (read (Err e) parsed (some, fits))
      by (inr large) = omega (arith, small, large)
