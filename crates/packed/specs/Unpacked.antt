-- What a list of runs over some bytes stands for.
use Rattle.std.specs.Prelude.{ℕ, ◌+◌, ◌≤◌, List, map, take, drop}
use Rattle.packed.specs.declared.packed.Run.{Run}

-- a head with its bytes
abbrev pub unpacked_run : {H : Type 0} → List ℕ → Run H → H × List ℕ
unpacked_run bytes run = (run.head, take run.len (drop run.start bytes))

abbrev pub unpacked : {H : Type 0} → List ℕ → List (Run H) → List (H × List ℕ)
unpacked bytes runs = map (unpacked_run bytes) runs

-- a run lies within so many bytes
abbrev pub IsWithin : {H : Type 0} → ℕ → Run H → Type 0
IsWithin end run = run.start + run.len ≤ end
