-- Bytes as text, 16 a line; and the last reply of a command, which tells how it ended.
use Rattle.std.specs.Prelude.{ℕ, ◌+◌, ◌-◌, ◌*◌, ◌/◌, ◌%◌, ◌==◌, List, [], ◌∷◌, ◌++◌, length, take, drop, slice_get, Option, Some, None, if◌then◌else◌}
use Rattle.std.specs.List.{flat_map}
use Rattle.bus_spec.specs.Lines.{joined, two_digits}
use Rattle.i2c_base.specs.Need.{bytes_given}
use Rattle.i2c_base.specs.declared.reply.Reply.{Reply}
use Rattle.tools.specs.Tables.{parts}

-- ---- lines of bytes

-- line `row` has the bytes from 16 * row on, each as two digits, with a space between each two
abbrev pub hex_line : List ℕ → ℕ → List (List ℕ)
hex_line bytes row = joined (take 16 (drop (16 * row) bytes)) ∷ []

abbrev pub byte_lines : List ℕ → List (List ℕ)
byte_lines bytes = parts (hex_line bytes) ((length bytes + 15) / 16)

-- the same byte by byte: before byte n stands a space, or the end of the line before
abbrev pub before_cell : ℕ → List ℕ
before_cell n = if n % 16 == 0 then (if n == 0 then [] else 10 ∷ []) else 32 ∷ []

abbrev pub cells : ℕ → List ℕ → List ℕ
cells n [] = []
cells n (byte ∷ bytes) = (before_cell n ++ two_digits byte) ++ cells (n + 1) bytes

-- ---- replies

abbrev pub last_reply : List Reply → Option Reply
last_reply rs = slice_get rs (length rs - 1)

-- the bytes that all replies bring, one after the other
abbrev pub all_bytes_read : List Reply → List ℕ
all_bytes_read rs = flat_map bytes_given rs

-- those of the reply at a place, if there is one
abbrev pub bytes_in : Option Reply → List ℕ
bytes_in None = []
bytes_in (Some r) = bytes_given r

abbrev pub bytes_at : List Reply → ℕ → List ℕ
bytes_at rs place = bytes_in (slice_get rs place)
