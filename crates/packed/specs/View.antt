-- What a contract sees of a store: the heads with their bytes, and its room.
use Rattle.std.specs.Prelude.{ℕ, List}

-- each head with its bytes, and the room for more items and for more bytes
pub record PackedView (H : Type 0) : Type 0 where
  pub items : List (H × List ℕ)
  pub room : ℕ
  pub room_bytes : ℕ
