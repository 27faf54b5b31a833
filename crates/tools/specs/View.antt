-- What contracts see of a text that grows.
use Rattle.std.specs.Prelude.{ℕ, List}

-- bytes, and the room for more
pub record TextView : Type 0 where
  pub bytes : List ℕ
  pub room : ℕ
