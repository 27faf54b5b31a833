use Rattle.std.specs.Prelude.{ℕ, ◌<◌, List, All}

-- a number that fits in eight bits, and a list of such
abbrev pub IsByte : ℕ → Type 0
IsByte byte = byte < 256

abbrev pub AreBytes : List ℕ → Type 0
AreBytes bytes = All IsByte bytes

-- a number that fits in sixteen bits
abbrev pub IsWord : ℕ → Type 0
IsWord word = word < 65536
