-- The entry that an entry with borrowed bytes stands for, and how many bytes it may have.
use Rattle.std.specs.Prelude.{ℕ, ◌+◌, ◌*◌, List, Option}
use Rattle.std.specs.Option.{option_map}
use Rattle.i2c_base.specs.Limits.{MOST_BYTES, MOST_LENGTH}
use Rattle.i2c_base.specs.Replies.{reply_by, most_read}
use Rattle.i2c_base.specs.declared.entry.Entry.{Entry}
use Rattle.i2c_base.specs.declared.entry.Entry.TheVariants as entry
use Rattle.bus_journal.specs.declared.borrowed.Head.{Head}
use Rattle.bus_journal.specs.declared.borrowed.Head.TheVariants as head
use Rattle.bus_journal.specs.declared.borrowed.EntryRef.{EntryRef}

abbrev pub entry_by : Head → List ℕ → Entry
entry_by (head.Take caller lock) bytes = entry.Take caller lock
entry_by (head.Free caller lock) bytes = entry.Free caller lock
entry_by (head.Message caller bus purpose part parts addr reading heard end) bytes =
    entry.Message caller bus purpose part parts addr reading bytes heard end
entry_by (head.Line caller mux level failed) bytes = entry.Line caller mux level failed
entry_by (head.Settle caller a cut) bytes = entry.Settle caller (reply_by a bytes) cut

abbrev pub entry_seen : EntryRef → Entry
entry_seen seen = entry_by seen.head seen.bytes.now

-- what was read: a head, if there is one, and the bytes
abbrev pub read_as : Option Head → List ℕ → Option Entry
read_as head bytes = option_map (λ h. entry_by h bytes) head

-- a message has at most 512 bytes, a reply as many as it may read, and no other entry has any
abbrev pub most_bytes : Head → ℕ
most_bytes (head.Take caller lock) = 0
most_bytes (head.Free caller lock) = 0
most_bytes (head.Message caller bus purpose part parts addr reading heard end) = MOST_LENGTH
most_bytes (head.Line caller mux level failed) = 0
most_bytes (head.Settle caller a cut) = most_read a

-- no line of an entry has more bytes, without its line feed
abbrev pub LONGEST_LINE : ℕ
LONGEST_LINE = 69 + 3 * MOST_BYTES
