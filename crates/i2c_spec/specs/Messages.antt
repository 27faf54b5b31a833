-- A message with its bytes, as it goes over the wires.
use Rattle.std.specs.Prelude.{ℕ, ◌+◌, Bool, true, false, List, [], ◌∷◌, take, drop, if◌then◌else◌}
use Rattle.i2c_base.specs.declared.transfer.Msg.{Msg}
use Rattle.i2c_base.specs.Transfer.{TransferView, is_read, is_counted, written_of}

pub record MessageView : Type 0 where
  pub addr : ℕ
  pub reading : Bool
  -- a read whose first byte says how many more come
  pub counted : Bool
  -- how many bytes it reads; of a counted read those beside the ones that it counts
  pub len : ℕ
  -- the bytes that it writes
  pub bytes : List ℕ

abbrev pub message_with : Msg → List ℕ → MessageView
message_with m bytes = record { addr = m.addr; reading = is_read m; counted = is_counted m; len = m.len; bytes = bytes }

-- the bytes of a transfer are cut by the lengths of its writes
abbrev pub messages_from : List Msg → List ℕ → List MessageView
messages_from [] out = []
messages_from (m ∷ ms) out = message_with m (take (written_of m) out) ∷ messages_from ms (drop (written_of m) out)

abbrev pub messages_of : TransferView → List MessageView
messages_of t = messages_from t.msgs t.out

-- a write of one byte, and a read of one
abbrev pub write_byte : ℕ → ℕ → MessageView
write_byte addr byte = record { addr = addr; reading = false; counted = false; len = 1; bytes = byte ∷ [] }

abbrev pub read_byte : ℕ → MessageView
read_byte addr = record { addr = addr; reading = true; counted = false; len = 1; bytes = [] }

-- the bytes that a message moves at most: of a counted read as many as the limit allows, and those beside
abbrev pub bytes_most : ℕ → MessageView → ℕ
bytes_most limit m = if m.counted then limit + m.len else m.len
