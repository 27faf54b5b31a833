-- The transfers of a sensor's driver are the accesses of its registers.
use Rattle.reg_cache.proofs.Cited.{◌≡◌, ◌⊎◌, inl, inr, ℕ, zero, suc, ◌<◌, ◌≤◌, ◌/◌, ◌%◌, refl, sym, subst, ◌∙◌, arith, IsLowByte}
use Rattle.reg_cache.proofs.Cited.{DeviceView, messages_of_call, RegName, Temp, Hyst, Max, raw_of, swapped, read_call, write_call}
use Rattle.std.proofs.Common.{◌*◌}
use Rattle.std.specs.Prelude.{ℤ, pos, negsuc, neg_ℤ, ◌*ℤ◌}
use Rattle.std.specs.Int.{cast_unsigned, w16}
use Rattle.std.proofs.Math.IntN.{negsuc-*ℤ-pos}
use Rattle.std.proofs.lemmas.Bool.{cases_lt}
use Rattle.cache_laws.specs.Order.{SensorRegister, Temperature, Hysteresis, Limit, register_read, register_write}

abbrev pub register_named : RegName → SensorRegister
register_named Temp = Temperature
register_named Hyst = Hysteresis
register_named Max = Limit

pub reads-are : (v : DeviceView) (which : RegName)
    → messages_of_call (read_call (record { bus = v.bus; addr = v.addr }) which) ≡ register_read v (register_named which)
reads-are v Temp = refl
reads-are v Hyst = refl
reads-are v Max = refl

pub writes-are : (v : DeviceView) (which : RegName) (word : ℕ)
    → messages_of_call (write_call (record { bus = v.bus; addr = v.addr }) which word)
    ≡ register_write v (register_named which) (word % 256) (word / 256)
writes-are v Temp word = refl
writes-are v Hyst word = refl
writes-are v Max word = refl

-- the low seven bits of a register's word are 0, whatever is written
minus_whole : (k : ℕ) → k % 128 ≡ 0 → cast_unsigned w16 (neg_ℤ (pos k)) % 128 ≡ 0
minus_whole zero e = omega arith
minus_whole (suc k) e = omega (arith, e)

below_whole : (m : ℕ) → cast_unsigned w16 (neg_ℤ (pos m) *ℤ pos 128) % 128 ≡ 0
below_whole zero = omega arith
below_whole (suc m) = subst (λ z. cast_unsigned w16 z % 128 ≡ 0) (sym (negsuc-*ℤ-pos m 128)) (minus_whole (suc m * 128) (omega arith))

pub raw-whole : (z : ℤ) → raw_of z % 128 ≡ 0
raw-whole (pos n) = omega arith
raw-whole (negsuc n) = below_whole (suc n / 500)

pub low-byte : (raw : ℕ) → raw < 65536 → raw % 128 ≡ 0 → IsLowByte (swapped raw / 256)
low-byte raw small whole = by (cases_lt (raw % 256) 128)
  where
    last : swapped raw / 256 ≡ raw % 256
    last = omega (arith, small)

    by : (raw % 256 < 128) ⊎ (128 ≤ raw % 256) → IsLowByte (swapped raw / 256)
    by (inl below) = inl (last ∙ (omega (arith, below, whole)))
    by (inr above) = inr (last ∙ (omega (arith, above, whole)))
