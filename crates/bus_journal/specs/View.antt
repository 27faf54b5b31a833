-- What a contract sees of a journal.
use Rattle.std.specs.Prelude.{ℕ, List}
use Rattle.i2c_base.specs.declared.entry.Entry.{Entry}

-- its entries, the oldest first, and the room for more of them and for more of their bytes
pub record JournalView : Type 0 where
  pub entries : List Entry
  pub room : ℕ
  pub room_bytes : ℕ
