-- The table of digits has what each number below 16 is written with.
use Rattle.bus_journal.proofs.Cited.{◌≡◌, ℕ, ◌<◌, get_or, refl, ap, ◌∙◌, arith, hex_digit}
use Rattle.std.proofs.Common.{map}
use Rattle.std.proofs.lemmas.List.FromFn.{get_or-map-range_with_len}
use Rattle.std.specs.List.{range_with_len}
use Rattle.bus_journal.specs.declared.text.TheConstants.{DIGITS}

-- computed for all of them
digits_are : DIGITS ≡ map hex_digit (range_with_len 0 16)
digits_are = refl

pub digit_at : (value place : ℕ) → value < 16 → place ≡ value → get_or DIGITS place 0 ≡ hex_digit value
digit_at value place small here =
    ap (λ n. get_or DIGITS n 0) here
    ∙ (ap (λ t. get_or t value 0) digits_are ∙ get_or-map-range_with_len hex_digit 0 16 value value 0 small (omega arith))
