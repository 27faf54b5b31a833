-- A number in decimal is read back by the grammar, and is no option and no mode: all of its bytes are digits.
use Rattle.std.proofs.Common.{◌≡◌, ℕ, zero, suc, ◌+◌, ◌-◌, ◌*◌, ◌^◌, ◌<◌, ◌≤◌, Bool, true, false, cond, eqb, leb, ltb, List, [], ◌∷◌}
use Rattle.std.proofs.Common.{length, drop, get_or, Some, None, refl, ap, ◌∙◌, arith}
use Rattle.std.specs.Prelude.{◌&&◌, ◌||◌, option_and_then}
use Rattle.std.specs.Fmt.{decimal}
use Rattle.std.specs.Cmp.Lexicographic.{pointwise}
use Rattle.std.specs.Str.{bytes_eq}
use Rattle.std.proofs.lemmas.Bool.{and_from}
use Rattle.std.proofs.lemmas.Bool.Decides.{nat_tests}
use Rattle.std.proofs.lemmas.Fmt.{decimal_is_IsNumeral, decimal_nonempty, first_decimal, decimal_digit as digit_decimal}
use Rattle.std.proofs.lemmas.Str.{digit_value_digit}
use Rattle.std.proofs.lemmas.Str.Parse.{digit_from_value}
use Rattle.std.specs.Str.Parse.{AllDigits, digits_value_after}
use Rattle.std.specs.Char.{digit_value}
use Rattle.i2c_gen.proofs.WordLemmas.{has_no_gap, is_word}
use Rattle.tools.specs.Numbers.{decimal_digit, digits_on, is_hexadecimal, is_decimal, number_in_word, number_in, within}

-- the byte of a digit
pub record IsDigitByte (b : ℕ) : Type 0 where
  pub from_zero : 48 ≤ b
  pub to_nine : b ≤ 57

abbrev pub AreDigitBytes : List ℕ → Type 0
AreDigitBytes [] = Unit {0}
AreDigitBytes (b ∷ bs) = IsDigitByte b × AreDigitBytes bs

digit_bytes : (bs : List ℕ) → AllDigits 10 bs → AreDigitBytes bs
digit_bytes [] d = tt
digit_bytes (b ∷ bs) d = let k = digit_from_value b d.0 in (record { from_zero = omega arith; to_nine = omega arith }, digit_bytes bs d.1)

digit_read : (b : ℕ) → digit_value b < 10 → decimal_digit b ≡ Some (digit_value b)
digit_read b h =
    let k = digit_from_value b h in
    let low : leb 48 b ≡ true = grind (arith, nat_tests) in
    let high : leb b 57 ≡ true = grind (arith, nat_tests) in
    let same : b - 48 ≡ digit_value b = omega (arith, digit_value_digit b k) in
    ap (λ t. cond (t && leb b 57) (Some (b - 48)) None) low ∙ ap (λ t. cond t (Some (b - 48)) None) high ∙ ap Some same

digits_read : (n : ℕ) (bs : List ℕ) → AllDigits 10 bs → digits_on false n bs ≡ Some (digits_value_after 10 n bs)
digits_read n [] d = refl
digits_read n (b ∷ bs) d =
    ap (option_and_then (λ v. digits_on false (n * 10 + v) bs)) (digit_read b d.0) ∙ digits_read (n * 10 + digit_value b) bs d.1

-- digits that are a number without a zero before it
pub record IsNumber (n : ℕ) (w : List ℕ) : Type 0 where
  pub some : 0 < length w
  pub bytes : AreDigitBytes w
  pub value : digits_on false 0 w ≡ Some n
  pub short : get_or w 0 0 ≡ 48 → length w ≡ 1

pub decimal_number : (n : ℕ) → n < 2 ^ 64 → IsNumber n (decimal n)
decimal_number n small =
    let k = decimal_is_IsNumeral n small in
    record {
      some = decimal_nonempty n small;
      bytes = digit_bytes (decimal n) k.0.1;
      value = digits_read 0 (decimal n) k.0.1 ∙ ap Some k.1;
      short = by n small;
    }
  where
    by : (m : ℕ) → m < 2 ^ 64 → get_or (decimal m) 0 0 ≡ 48 → length (decimal m) ≡ 1
    by zero l e = ap length (digit_decimal 0 (omega arith))
    by (suc m) l e = absurd (omega (arith, first_decimal (suc m) (omega arith) l))

plain : (w : List ℕ) → AreDigitBytes w → is_hexadecimal w ≡ false
plain [] d = refl
plain (b ∷ []) d = refl
plain (b ∷ c ∷ cs) d =
    let k = d.1.0 in
    let no : eqb c 120 ≡ false = grind (arith, nat_tests, k.to_nine) in
    ap (λ t. ltb 2 (length (b ∷ c ∷ cs)) && (eqb b 48 && t)) no ∙ neither (ltb 2 (length (b ∷ c ∷ cs))) (eqb b 48)
  where
    neither : (s t : Bool) → (s && (t && false)) ≡ false
    neither true true = refl
    neither true false = refl
    neither false t = refl

whole : (n : ℕ) (w : List ℕ) → IsNumber n w → is_decimal w ≡ true
whole n w h = grind (arith, nat_tests, h.some, h.short)

pub number_read : (n : ℕ) (w : List ℕ) → IsNumber n w → number_in_word w ≡ Some n
number_read n w h =
    ap (λ t. cond t (digits_on true 0 (drop 2 w)) (cond (is_decimal w) (digits_on false 0 w) None)) (plain w h.bytes)
    ∙ ap (λ t. cond t (digits_on false 0 w) None) (whole n w h) ∙ h.value

pub number_within : (high n : ℕ) (w : List ℕ) → n ≤ high → IsNumber n w → number_in 0 high w ≡ Some n
number_within high n w l h =
    let some : leb 0 n ≡ true = grind (arith, nat_tests) in
    let in_range : leb n high ≡ true = grind (arith, nat_tests) in
    ap (within 0 high) (number_read n w h) ∙ ap (λ t. cond (t && leb n high) (Some n) None) some ∙ ap (λ t. cond t (Some n) None) in_range

-- ---- it is a word, and no other than a number

no_gap : (bs : List ℕ) → AreDigitBytes bs → has_no_gap bs ≡ true
no_gap [] d = refl
no_gap (b ∷ bs) d =
    let k = d.0 in
    let plain : ltb 32 b ≡ true = grind (arith, nat_tests, k.from_zero) in
    and_from (ltb 32 b) (has_no_gap bs) plain (no_gap bs d.1)

pub number_word : (n : ℕ) (w : List ℕ) → IsNumber n w → is_word w ≡ true
number_word n [] h = absurd (omega (arith, h.some))
number_word n (b ∷ bs) h = no_gap (b ∷ bs) h.bytes

-- a text that begins with no digit
abbrev pub begins_otherwise : List ℕ → Bool
begins_otherwise [] = false
begins_otherwise (b ∷ bs) = ltb b 48 || ltb 57 b

pub number_ne : (n : ℕ) (w text : List ℕ) → IsNumber n w → begins_otherwise text ≡ true → bytes_eq w text ≡ false
number_ne n [] text h other = absurd (omega (arith, h.some))
number_ne n (b ∷ bs) [] h other = absurd cc
number_ne n (b ∷ bs) (c ∷ cs) h other =
    let k = h.bytes.0 in
    let no : eqb b c ≡ false = grind (arith, nat_tests, k.from_zero, k.to_nine) in
    ap (λ t. t && pointwise eqb bs cs) no
