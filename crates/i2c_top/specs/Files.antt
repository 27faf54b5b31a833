-- The files of a shelf.
use Rattle.std.specs.Prelude.{⊤, ℕ, List, [], Option, unwrap_or}

-- the bytes of a file by its name, where there is such a file
abbrev pub Files : Type 0
Files = List ℕ → Option (List ℕ)

-- the bytes of a file, and none where there is no such file
abbrev pub bytes_in : Files → List ℕ → List ℕ
bytes_in file name = unwrap_or (file name) []

-- there are files, and names like these, by which this is so: a shelf that doesn't tell its files may give one name other bytes each
-- time, so the bytes that it gave are told as files of other names
pub record OfSomeFiles {N : Type 0} (IsLike : N → N → Type 0) (names : N) (IsSo : Files → N → Type 0) : Type 0 where
  pub file : Files
  pub called : N
  pub like : IsLike called names
  pub so : IsSo file called

-- of one file the name may be any
abbrev pub IsAnyName : (called name : List ℕ) → Type 0
IsAnyName called name = ⊤
