use Rattle.std.specs.Prelude.{ℕ, ◌≤◌}
use Rattle.i2c_base.specs.Limits.{FIRST_ADDRESS, LAST_ADDRESS}

-- the addresses between the reserved ones (UM10204 section 3.1.12, "Reserved addresses")
abbrev pub IsTargetAddress : ℕ → Type 0
IsTargetAddress n = (FIRST_ADDRESS ≤ n) × (n ≤ LAST_ADDRESS)
