-- The bits of a control byte.
use Rattle.std.proofs.Common.{◌≡◌, ℕ, ◌<◌, ◌≤◌, ◌^◌, ◌/◌, ◌%◌, false, eqb, ap, arith}
use Rattle.std.proofs.Math.Nat.{div-eq_of_lt}
use Rattle.std.proofs.Math.Pow.{pow_mono}
use Rattle.i2c_spec.specs.Chips.{bit_of}

-- a byte has no bit above the seventh
pub bit_of_high : (byte i : ℕ) → byte < 256 → 8 ≤ i → bit_of byte i ≡ false
bit_of_high byte i small high =
    let power : 2 ^ 8 ≤ 2 ^ i = pow_mono high in
    let none : byte / 2 ^ i ≡ 0 = div-eq_of_lt (omega arith) in
    ap (λ q. eqb (q % 2) 1) none
