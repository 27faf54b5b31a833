-- Counts of faults, and when they say that a call had a cause to fail.
use Rattle.std.specs.Prelude.{◌≡◌, ℕ, ◌+◌, ◌-◌, ◌^◌, ◌<◌, ◌⊎◌, Result, OnErr, min}

-- where a count that is kept in 64 bits stands still
abbrev pub MOST : ℕ
MOST = 2 ^ 64 - 1

-- a count rose in a call where it is greater at the end than before, or stands at its end
abbrev pub Rose : ℕ → ℕ → Type 0
Rose old new = (old < new) ⊎ (new ≡ MOST)

-- a failed call has its cause in the count
abbrev pub HasCause : {T E : Type 0} → ℕ → ℕ → Result T E → Type 0
HasCause old new result = OnErr result (Rose old new)

-- a count of calls grows by one, up to its end
abbrev pub counted : ℕ → ℕ
counted n = min (n + 1) MOST
