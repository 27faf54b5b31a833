-- A number's digits: the last one stands behind those of its tenth; and how many there are.
use Rattle.bus_journal.proofs.Cited.{◌≡◌, ℕ, List, ◌+◌, ◌^◌, ◌<◌, ◌≤◌, ◌/◌, ◌%◌, [], ◌∷◌, ◌++◌, length, arith, ap, ◌∙◌, append_assoc}
use Rattle.bus_journal.proofs.Cited.{decimal}
use Rattle.std.proofs.Common.{length-append}
use Rattle.std.proofs.lemmas.Fmt.{decimal_step, length-decimal-le}

pub digits_more : (was : List ℕ) (n : ℕ) → 10 ≤ n → n < 2 ^ 64 → (was ++ decimal (n / 10)) ++ (48 + n % 10) ∷ [] ≡ was ++ decimal n
digits_more was n big small = let step = decimal_step n big small in rw (append_assoc, step)

pub room_for_last : (was new : List ℕ) (n : ℕ) → 10 ≤ n → n < 2 ^ 64 → new ≡ was ++ decimal (n / 10)
    → length was + length (decimal n) ≤ 512 → length new < 512
room_for_last was new n big small is room =
    let one_more = ap length (decimal_step n big small) ∙ length-append (decimal (n / 10)) ((48 + n % 10) ∷ []) in
    let l = ap length is ∙ length-append was (decimal (n / 10)) in
    omega (arith, one_more, l, room)

pub room_for_first : (was : List ℕ) (n : ℕ) → 10 ≤ n → n < 2 ^ 64 → length was + length (decimal n) ≤ 512
    → length was + length (decimal (n / 10)) ≤ 512
room_for_first was n big small room =
    let one_more = ap length (decimal_step n big small) ∙ length-append (decimal (n / 10)) ((48 + n % 10) ∷ []) in
    omega (arith, one_more, room)

-- a number of 16 bits has at most five digits, one of 8 bits at most three
pub wide_digits : (n : ℕ) → n < 65536 → length (decimal n) ≤ 5
wide_digits n small = length-decimal-le 5 n (omega arith) (omega (arith, small)) (omega (arith, small))

pub small_digits : (n : ℕ) → n < 256 → length (decimal n) ≤ 3
small_digits n small = length-decimal-le 3 n (omega arith) (omega (arith, small)) (omega (arith, small))

pub wide_behind : (was new : List ℕ) (n : ℕ) → n < 65536 → new ≡ was ++ decimal n → length new ≤ length was + 5
wide_behind was new n small is =
    let l = ap length is ∙ length-append was (decimal n) in
    let d = wide_digits n small in
    omega (arith, l, d)

pub small_behind : (was new : List ℕ) (n : ℕ) → n < 256 → new ≡ was ++ decimal n → length new ≤ length was + 3
small_behind was new n small is =
    let l = ap length is ∙ length-append was (decimal n) in
    let d = small_digits n small in
    omega (arith, l, d)
