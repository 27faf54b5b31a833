-- Digits after a value so far, one digit at a time. The inductions go over the digits that are left.
use Rattle.tools.proofs.Cited.{◌≡◌, ℕ, ◌+◌, ◌*◌, ◌<◌, Bool, true, false, List, [], ◌∷◌, length, drop, get_or, Option, Some, None, refl, sym}
use Rattle.tools.proofs.Cited.{ap, ◌∙◌, arith, nat_tests, option_and_then, base_of, digits_on, within}
use Rattle.std.proofs.lemmas.List.{at_drop_more}
use Rattle.tools.specs.Numbers.{digit_of}

grows : (hexadecimal : Bool) (n d : ℕ) → 128000 < n → 128000 < n * base_of hexadecimal + d
grows true n d h = omega arith
grows false n d h = omega arith

past_range : (n : ℕ) → 128000 < n → within 0 128000 (Some n) ≡ None
past_range n h = grind (arith, nat_tests)

-- a value past the range stays past it
pub digits_past : (hexadecimal : Bool) (n : ℕ) (bs : List ℕ) → 128000 < n → within 0 128000 (digits_on hexadecimal n bs) ≡ None
digits_past hexadecimal n [] h = past_range n h
digits_past hexadecimal n (b ∷ bs) h =
    elim (digit_of hexadecimal b) as
    (λ o. within 0 128000 (option_and_then (λ d. digits_on hexadecimal (n * base_of hexadecimal + d) bs) o) ≡ None) [
      | None ↦ refl
      | Some d ↦ digits_past hexadecimal (n * base_of hexadecimal + d) bs (grows hexadecimal n d h)
    ]

digits_step : (hexadecimal : Bool) (n : ℕ) (xs : List ℕ) (i : ℕ) (o : Option ℕ) → i < length xs → o ≡ digit_of hexadecimal (get_or xs i 0)
    → digits_on hexadecimal n (drop i xs) ≡ option_and_then (λ d. digits_on hexadecimal (n * base_of hexadecimal + d) (drop (i + 1) xs)) o
digits_step hexadecimal n xs i o h e =
    at_drop_more (digits_on hexadecimal n) xs i 0 h
    ∙ ap (option_and_then (λ d. digits_on hexadecimal (n * base_of hexadecimal + d) (drop (i + 1) xs))) (sym e)

pub value_more : (hexadecimal : Bool) (n : ℕ) (xs : List ℕ) (i d : ℕ) (r : Option ℕ) → i < length xs
    → Some d ≡ digit_of hexadecimal (get_or xs i 0)
    → within 0 128000 (digits_on hexadecimal n (drop i xs)) ≡ r
    → within 0 128000 (digits_on hexadecimal (n * base_of hexadecimal + d) (drop (i + 1) xs)) ≡ r
value_more hexadecimal n xs i d r h e k = ap (within 0 128000) (sym (digits_step hexadecimal n xs i (Some d) h e)) ∙ k

pub value_past : (hexadecimal : Bool) (n b : ℕ) (xs : List ℕ) (i d : ℕ) (r : Option ℕ) → i < length xs
    → Some d ≡ digit_of hexadecimal (get_or xs i 0)
    → b ≡ base_of hexadecimal → 128000 < n * b + d → within 0 128000 (digits_on hexadecimal n (drop i xs)) ≡ r → None ≡ r
value_past hexadecimal n b xs i d r h e same p k =
    let past : 128000 < n * base_of hexadecimal + d = rw (← same) p in
    sym (digits_past hexadecimal (n * base_of hexadecimal + d) (drop (i + 1) xs) past) ∙ value_more hexadecimal n xs i d r h e k
