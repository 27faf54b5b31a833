-- The number that has come so far, with one bit more.
use Rattle.std.proofs.Common.{ℕ, suc, ◌≡◌, ◌+◌, ◌-◌, ◌*◌, ◌^◌, ◌<◌, ◌≤◌, Bool, true, false, arith}
use mir.Val.{bool_byte}
use Rattle.std.proofs.Math.Nat.{pow-suc}

bit_small : (level : Bool) → bool_byte level < 2
bit_small true = omega arith
bit_small false = omega arith

one_more : (v left d : ℕ) → 0 < left → left ≤ 8 → d < 2 → v < 2 ^ (8 - left) → 2 * v + d < 2 ^ (8 - (left - 1))
one_more v left d some few small fits =
    let e : 8 - (left - 1) ≡ suc (8 - left) = omega arith in
    rw e (omega (arith, pow-suc 2 (8 - left)))

-- it fits one bit more
pub next_fits : (v left : ℕ) (level : Bool) → 0 < left → left ≤ 8 → v < 2 ^ (8 - left) → 2 * v + bool_byte level < 2 ^ (8 - (left - 1))
next_fits v left level some few fits = one_more v left (bool_byte level) some few (bit_small level) fits
