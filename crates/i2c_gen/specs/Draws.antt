-- The draws of a seed: a linear congruential generator modulo 2^64, with the multiplier and the increment of Knuth's MMIX (The Art
-- of Computer Programming, volume 2, section 3.3.4), of which the high 31 bits are used.
use Rattle.std.specs.Prelude.{ℕ, zero, suc, ◌+◌, ◌*◌, ◌/◌, ◌%◌, ◌^◌}

-- the number behind a draw
abbrev pub behind : ℕ → ℕ
behind x = (x * 6364136223846793005 + 1442695040888963407) % 2 ^ 64

-- the number that it leads to, as one of so many
abbrev pub drawn : ℕ → (many : ℕ) → ℕ
drawn x many = x / 2 ^ 33 % many

-- the number behind so many draws
abbrev pub number_behind : (seed : ℕ) → ℕ → ℕ
number_behind seed zero = seed
number_behind seed (suc k) = behind (number_behind seed k)

-- draw k of a seed, from 0, as one of so many
abbrev pub draw : (seed k many : ℕ) → ℕ
draw seed k many = drawn (number_behind seed (suc k)) many
