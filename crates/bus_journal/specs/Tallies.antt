-- What the entries of a journal come to, in five counts.
use Rattle.std.specs.Prelude.{ℕ, ◌+◌, ◌-◌, ◌^◌, ◌≤◌, List, length}
use Rattle.std.specs.List.{sum_by}
use Rattle.bus_journal.specs.declared.tally.Tally.{Tally}
use Rattle.i2c_base.specs.declared.entry.Entry.{Entry}
use Rattle.i2c_base.specs.declared.entry.Entry.TheVariants as entry
use Rattle.i2c_base.specs.declared.reply.Reply.{Reply}
use Rattle.i2c_base.specs.declared.reply.Reply.TheVariants as reply

-- a transfer is decided
abbrev pub transfers_in : Entry → ℕ
transfers_in (entry.Settle caller r cut) = 1
transfers_in _ = 0

-- a message is on the bus
abbrev pub messages_in : Entry → ℕ
messages_in (entry.Message caller bus purpose part parts addr reading bytes heard end) = 1
messages_in _ = 0

-- a lock is taken
abbrev pub locks_in : Entry → ℕ
locks_in (entry.Take caller lock) = 1
locks_in _ = 0

-- a reply is an error
abbrev pub errors_of : Reply → ℕ
errors_of reply.Done = 0
errors_of (reply.Read bytes) = 0
errors_of (reply.Err errno) = 1

abbrev pub errors_in : Entry → ℕ
errors_in (entry.Settle caller r cut) = errors_of r
errors_in _ = 0

-- a reply gives so many bytes
abbrev pub bytes_of : Reply → ℕ
bytes_of reply.Done = 0
bytes_of (reply.Read bytes) = length bytes
bytes_of (reply.Err errno) = 0

abbrev pub bytes_in : Entry → ℕ
bytes_in (entry.Settle caller r cut) = bytes_of r
bytes_in _ = 0

abbrev pub tally_of : List Entry → Tally
tally_of journal = record {
  transfers = sum_by transfers_in journal;
  messages = sum_by messages_in journal;
  locks = sum_by locks_in journal;
  errors = sum_by errors_in journal;
  bytes = sum_by bytes_in journal;
}

-- two tallies together, and one that 64 bits hold
abbrev pub plus : Tally → Tally → Tally
plus t u = record {
  transfers = t.transfers + u.transfers;
  messages = t.messages + u.messages;
  locks = t.locks + u.locks;
  errors = t.errors + u.errors;
  bytes = t.bytes + u.bytes;
}

-- each count is at most so much
pub record IsAtMost (most : ℕ) (t : Tally) : Type 0 where
  pub transfers : t.transfers ≤ most
  pub messages : t.messages ≤ most
  pub locks : t.locks ≤ most
  pub errors : t.errors ≤ most
  pub bytes : t.bytes ≤ most

abbrev pub Fits : Tally → Type 0
Fits t = IsAtMost (2 ^ 64 - 1) t
