-- The front of a text.
use Rattle.std.specs.Prelude.{ℕ, Bool, ◌&&◌, List}
use Rattle.bus_journal.specs.Guess.{byte_at, is_hex}

-- a byte stands there: a mark and two hexadecimal digits
abbrev pub begins_with_byte : List ℕ → Bool
begins_with_byte text = is_hex (byte_at 1 text) && is_hex (byte_at 2 text)
