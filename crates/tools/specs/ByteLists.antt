-- Bytes as the rest of a line.
use Rattle.std.specs.Prelude.{ℕ, zero, suc, ◌+◌, List, [], ◌∷◌, ◌++◌, Result, Ok, if◌then◌else◌}
use Rattle.tools.specs.Grammars.{Grammar, ends, class, maybe}
use Rattle.tools.specs.LineSets.{Word}
use Rattle.tools.specs.Options.{byte}
use Rattle.tools.specs.Readers.{◌>>=◌, one_at, over_at, is_past}

-- one byte or more after others, at most so many, and what all of them make
unfoldable pub some_bytes : {A : Type 0} → ℕ → List ℕ → (List ℕ → A) → Grammar A
some_bytes zero got made = ends (made got)
some_bytes (suc n) got made = class byte (λ b. maybe (made (got ++ b ∷ [])) (some_bytes n (got ++ b ∷ []) made))

-- they as they are read
unfoldable pub bytes_at : ℕ → List ℕ → List Word → ℕ → Result (List ℕ) ℕ
bytes_at zero got ws i = over_at got ws i
bytes_at (suc n) got ws i =
    one_at byte.of ws i >>= λ b. if is_past ws (i + 1) then Ok (got ++ b ∷ []) else bytes_at n (got ++ b ∷ []) ws (i + 1)
