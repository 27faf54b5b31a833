-- The one entry that a line could be, each part read where it would stand. Of a line that is no entry's text it is
-- some entry, whose text is another line.
use Rattle.std.specs.Prelude.{ℕ, ◌+◌, ◌-◌, ◌*◌, ◌%◌, nat_lt, Bool, cond, ◌==◌, ◌&&◌, ◌||◌, List, [], ◌∷◌, length, take, drop, get_or, Option, Some, None}
use Rattle.bus_spec.specs.Lines.{errno_text}
use Rattle.i2c_base.specs.Limits.{MOST_BYTES, MOST_LENGTH}
use Rattle.i2c_base.specs.declared.ids.LockId.{LockId}
use Rattle.i2c_base.specs.declared.ids.LockId.TheVariants as lock
use Rattle.i2c_base.specs.declared.ids.Node.{Node}
use Rattle.i2c_base.specs.declared.ids.Node.TheVariants as node
use Rattle.i2c_base.specs.declared.errno.Errno.{Errno}
use Rattle.i2c_base.specs.declared.errno.Errno.TheVariants.{Eio, Enxio, Ebadf, Ebusy, Enodev, Einval, Eproto, Ebadmsg, Eopnotsupp, Etimedout, Eremoteio}
use Rattle.i2c_base.specs.declared.reply.Reply.{Reply}
use Rattle.i2c_base.specs.declared.reply.Reply.TheVariants as reply
use Rattle.i2c_base.specs.declared.reply.Cut.{Cut}
use Rattle.i2c_base.specs.declared.reply.Cut.TheVariants as cut
use Rattle.i2c_base.specs.declared.entry.Purpose.{Purpose}
use Rattle.i2c_base.specs.declared.entry.Purpose.TheVariants as purpose
use Rattle.i2c_base.specs.declared.entry.End.{End}
use Rattle.i2c_base.specs.declared.entry.End.TheVariants as end
use Rattle.i2c_base.specs.declared.entry.Entry.{Entry}
use Rattle.i2c_base.specs.declared.entry.Entry.TheVariants as entry

-- the byte at a place, 0 past the end
abbrev pub byte_at : ℕ → List ℕ → ℕ
byte_at place text = get_or text place 0

abbrev pub is_digit : ℕ → Bool
is_digit c = nat_lt 47 c && nat_lt c 58

abbrev pub is_hex : ℕ → Bool
is_hex c = is_digit c || (nat_lt 96 c && nat_lt c 103)

abbrev pub hex_value : ℕ → ℕ
hex_value c = cond (nat_lt c 58) (c - 48) (c - 87)

-- the digits at the front, after the digits of n, as a number of 16 bits
unfoldable pub number_from : ℕ → List ℕ → ℕ
number_from n [] = n
number_from n (c ∷ text) = cond (is_digit c) (number_from ((10 * n + (c - 48)) % 65536) text) n

abbrev pub number_of : List ℕ → ℕ
number_of text = number_from 0 text

-- what stands behind the digits at the front
unfoldable pub behind_number : List ℕ → List ℕ
behind_number [] = []
behind_number (c ∷ text) = cond (is_digit c) (behind_number text) (c ∷ text)

-- the bytes at the front, each a mark and two hexadecimal digits, and what stands behind them
unfoldable pub bytes_of : List ℕ → List ℕ
bytes_of (mark ∷ high ∷ low ∷ text) = cond (is_hex high && is_hex low) ((16 * hex_value high + hex_value low) ∷ bytes_of text) []
bytes_of _ = []

unfoldable pub behind_bytes : List ℕ → List ℕ
behind_bytes (mark ∷ high ∷ low ∷ text) = cond (is_hex high && is_hex low) (behind_bytes text) (mark ∷ high ∷ low ∷ text)
behind_bytes text = text

-- what stands behind the bytes of a list that starts at its bracket; a list of none leaves the bracket
unfoldable pub behind_list : List ℕ → List ℕ
behind_list text = cond (byte_at 0 (behind_bytes text) == 91) (drop 1 (behind_bytes text)) (behind_bytes text)

-- "buslock " and "muxlock " have eight letters
unfoldable pub lock_of : List ℕ → LockId
lock_of text = cond (byte_at 0 text == 98) (lock.Bus (number_of (drop 8 text))) (lock.Mux (number_of (drop 8 text)))

-- "call " or "mux ", a number and a space
unfoldable pub purpose_of : List ℕ → Purpose
purpose_of text = cond (byte_at 0 text == 99) purpose.Call (purpose.Control (number_of (drop 4 text)))

unfoldable pub behind_purpose : List ℕ → List ℕ
behind_purpose text = cond (byte_at 0 text == 99) (drop 5 text) (drop 1 (behind_number (drop 4 text)))

-- "none", or a letter and a number
unfoldable pub heard_of : List ℕ → Option Node
heard_of text =
    cond (byte_at 0 text == 110) None
    (Some (cond (byte_at 0 text == 100) (node.Device (number_of (drop 1 text))) (node.Chip (number_of (drop 1 text)))))

unfoldable pub behind_heard : List ℕ → List ℕ
behind_heard text = cond (byte_at 0 text == 110) (drop 5 text) (drop 1 (behind_number (drop 1 text)))

-- the first letters of ok, nack, slow, refused, proto and cut differ
unfoldable pub end_of : List ℕ → End
end_of text =
    cond (byte_at 0 text == 111) end.Ok
    (cond (byte_at 0 text == 110) end.Nack
    (cond (byte_at 0 text == 115) end.Slow
    (cond (byte_at 0 text == 114) end.Refused
    (cond (byte_at 0 text == 112) end.Proto (end.Cut (number_of (drop 4 text)))))))

-- the second letter of a name, and where that is not enough the third, or the fifth
unfoldable pub errno_of : List ℕ → Errno
errno_of text =
    cond (byte_at 1 text == 73) (cond (byte_at 2 text == 79) Eio Einval)
    (cond (byte_at 1 text == 78) (cond (byte_at 2 text == 88) Enxio Enodev)
    (cond (byte_at 1 text == 66) (cond (byte_at 2 text == 85) Ebusy (cond (byte_at 4 text == 70) Ebadf Ebadmsg))
    (cond (byte_at 1 text == 80) Eproto
    (cond (byte_at 1 text == 79) Eopnotsupp (cond (byte_at 1 text == 84) Etimedout Eremoteio)))))

-- "done", "read" and bytes, or the name of an error
unfoldable pub reply_of : List ℕ → Reply
reply_of text =
    cond (byte_at 0 text == 100) reply.Done
    (cond (byte_at 0 text == 114) (reply.Read (take MOST_BYTES (bytes_of (drop 4 text)))) (reply.Err (errno_of text)))

unfoldable pub behind_reply : List ℕ → List ℕ
behind_reply text =
    cond (byte_at 0 text == 100) (drop 4 text)
    (cond (byte_at 0 text == 114) (behind_bytes (drop 4 text)) (drop (length (errno_text (errno_of text))) text))

-- nothing, " cut way", or " cut ", a number, a dot and a number
unfoldable pub cut_of : List ℕ → Cut
cut_of text =
    cond (byte_at 0 text == 32)
    (cond (byte_at 0 (behind_number (drop 5 text)) == 46)
    (cut.At (number_of (drop 5 text) % 256) (number_of (drop 1 (behind_number (drop 5 text))))) cut.Way)
    cut.No

-- what stands behind an entry's first word, with the caller's number
abbrev pub caller_of : List ℕ → ℕ
caller_of text = number_of text % 256

unfoldable pub message_of : List ℕ → Entry
message_of text =
    let bus = drop 5 (behind_number text) in
    let purpose = drop 1 (behind_number bus) in
    let part = behind_purpose purpose in
    let parts = drop 1 (behind_number part) in
    let words = drop 1 (behind_number parts) in
    let addr = drop 3 words in
    let bytes = drop 4 addr in
    let heard = drop 8 (behind_list bytes) in
    entry.Message (caller_of text) (number_of bus) (purpose_of purpose) (number_of part % 256) (number_of parts % 256)
    (get_or (bytes_of addr) 0 0) (byte_at 0 words == 114) (take MOST_LENGTH (bytes_of bytes)) (heard_of heard) (end_of (behind_heard heard))

unfoldable pub line_of : List ℕ → Entry
line_of text =
    let mux = drop 5 (behind_number text) in
    let level = drop 7 (behind_number mux) in
    entry.Line (caller_of text) (number_of mux) (number_of level % 256) (byte_at 1 (behind_number level) == 99)

unfoldable pub settle_of : List ℕ → Entry
settle_of text =
    let reply = drop 1 (behind_number text) in
    entry.Settle (caller_of text) (reply_of reply) (cut_of (behind_reply reply))

unfoldable pub entry_of : List ℕ → Entry
entry_of line =
    cond (byte_at 0 line == 116) (entry.Take (caller_of (drop 5 line)) (lock_of (drop 1 (behind_number (drop 5 line)))))
    (cond (byte_at 0 line == 102) (entry.Free (caller_of (drop 5 line)) (lock_of (drop 1 (behind_number (drop 5 line)))))
    (cond (byte_at 0 line == 109) (message_of (drop 4 line))
    (cond (byte_at 0 line == 108) (line_of (drop 5 line)) (settle_of (drop 7 line)))))
