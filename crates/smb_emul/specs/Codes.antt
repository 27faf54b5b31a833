-- An error code that runs along with the bytes. Only the crate's private clauses cite it.
use Rattle.std.specs.Prelude.{◌≡◌, ℕ, List, ◌++◌}
use Rattle.smb_pec.specs.LongDivision.{pec}

-- where the old code is that of some bytes, the new one is that of those and of these after them
abbrev pub RunsOn : ℕ → List ℕ → ℕ → Type 0
RunsOn old bytes new = (before : List ℕ) → old ≡ pec before → new ≡ pec (before ++ bytes)
