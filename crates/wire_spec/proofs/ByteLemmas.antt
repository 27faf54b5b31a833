-- A byte and its bits.
use Rattle.wire_spec.proofs.Cited.{◌≡◌, ℕ, zero, suc, ◌+◌, ◌/◌, ◌%◌, ◌<◌, ◌≤◌, true, cond, List, [], ◌∷◌, ap, sym, ◌∙◌, arith, ◌==◌, ◌&&◌}
use Rattle.wire_spec.proofs.Cited.{nat_tests, bit, bits, shifted, value, and_all}
use Rattle.std.proofs.Common.{◌*◌, ◌^◌}
use Rattle.std.specs.Prelude.{bit_and, min}
use Rattle.std.specs.Int.{bit_at}
use Rattle.std.proofs.lemmas.Nat.Bits.{bit_at_and, bit_at_ones, bit_at-lt}
use Rattle.std.proofs.lemmas.Nat.{and_le_r, mod-pow-add}
use Rattle.std.proofs.Math.Nat.{pow-suc}

num_below : (d : ℕ) → d < 2 → cond (d == 1) 1 0 ≡ d
num_below d lt = grind (arith, nat_tests)

-- a bit as a number
pub num_bit : (n k : ℕ) → cond (bit n k) 1 0 ≡ bit_at n k
num_bit n k = num_below (n / 2 ^ k % 2) (bit_at-lt n k)

value_step : (v d p r : ℕ) → (2 * v + d) * p + r ≡ v * (p * 2) + (d * p + r)
value_step v d p r = omega arith

-- the value of the bits of a byte is the byte
pub value_bits : (k n v : ℕ) → value v (bits k n) ≡ v * 2 ^ k + n % 2 ^ k
value_bits zero n v = omega arith
value_bits (suc k) n v =
    let ih : value (shifted v (bit n k)) (bits k n) ≡ (2 * v + cond (bit n k) 1 0) * 2 ^ k + n % 2 ^ k =
    value_bits k n (shifted v (bit n k)) in
    let e : n % 2 ^ (1 + k) ≡ (n / 2 ^ k % 2 ^ 1) * 2 ^ k + n % 2 ^ k = mod-pow-add n 1 k in
    let s : suc k ≡ 1 + k = omega arith in
    ih
    ∙ (ap (λ d. (2 * v + d) * 2 ^ k + n % 2 ^ k) (num_bit n k)
    ∙ (value_step v (bit_at n k) (2 ^ k) (n % 2 ^ k)
    ∙ (ap (λ x. v * (2 ^ k * 2) + x) (sym e)
    ∙ (ap (λ x. v * x + n % 2 ^ (1 + k)) (sym (pow-suc 2 k)) ∙ ap (λ x. v * 2 ^ suc k + n % 2 ^ x) (sym s)))))

min_test : (a b : ℕ) → a < 2 → b < 2 → (min a b == 1) ≡ ((a == 1) && (b == 1))
min_test a b h g = grind (arith, nat_tests)

-- one bit of the AND of two bytes
pub bit_and_bit : (a b k : ℕ) → bit (bit_and a b) k ≡ (bit a k && bit b k)
bit_and_bit a b k = ap (λ n. n == 1) (bit_at_and a b k) ∙ min_test (bit_at a k) (bit_at b k) (bit_at-lt a k) (bit_at-lt b k)

pub bit_ones : (k : ℕ) → k < 8 → bit 255 k ≡ true
bit_ones k lt = ap (λ n. n == 1) (bit_at_ones 8 k lt)

pub and_all_byte : (ns : List ℕ) → and_all ns ≤ 255
and_all_byte [] = omega arith
and_all_byte (n ∷ ns) = omega (arith, and_le_r n (and_all ns), and_all_byte ns)
