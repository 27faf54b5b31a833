-- The entries that the lines of a text tell, and the head of an entry.
use Rattle.std.specs.Prelude.{◌≡◌, ℕ, ◌+◌, ◌≤◌, ◌==◌, cond, List, [], ◌∷◌, ◌++◌, length, drop, Option, None, unwrap_or}
use Rattle.std.specs.List.{All, flat_map, last_or}
use Rattle.std.specs.Option.{option_map}
use Rattle.bus_spec.specs.Report.{ended_line}
use Rattle.bus_journal.specs.Guess.{entry_of}
use Rattle.bus_journal.specs.Ranges.{IsEntry}
use Rattle.i2c_base.specs.declared.entry.Entry.{Entry}
use Rattle.i2c_base.specs.declared.entry.Entry.TheVariants as entry
use Rattle.i2c_base.specs.declared.reply.Reply.{Reply}
use Rattle.i2c_base.specs.declared.reply.Reply.TheVariants as reply
use Rattle.i2c_base.specs.declared.reply.ReplyHead.{ReplyHead}
use Rattle.i2c_base.specs.declared.reply.ReplyHead.TheVariants as answer
use Rattle.bus_journal.specs.declared.borrowed.Head.{Head}
use Rattle.bus_journal.specs.declared.borrowed.Head.TheVariants as head

-- the entries of the lines of a text, of which the first has this front already
unfoldable pub entries_from : List ℕ → List ℕ → List Entry
entries_from front [] = []
entries_from front (c ∷ text) = cond (c == 10) (entry_of front ∷ entries_from [] text) (entries_from (front ++ c ∷ []) text)

abbrev pub entries_of : List ℕ → List Entry
entries_of text = entries_from [] text

-- an entry without its bytes
abbrev pub reply_head : Reply → ReplyHead
reply_head reply.Done = answer.Done
reply_head (reply.Read bytes) = answer.Read
reply_head (reply.Err errno) = answer.Err errno

abbrev pub head_of : Entry → Head
head_of (entry.Take caller lock) = head.Take caller lock
head_of (entry.Free caller lock) = head.Free caller lock
head_of (entry.Message caller bus purpose part parts addr reading bytes heard end) =
    head.Message caller bus purpose part parts addr reading heard end
head_of (entry.Line caller mux level failed) = head.Line caller mux level failed
head_of (entry.Settle caller reply cut) = head.Settle caller (reply_head reply) cut

-- the last of them, and its line with its line feed, which is empty where there is none
abbrev pub last_of : List Entry → Option Entry
last_of entries = last_or None entries

abbrev pub last_line : List Entry → List ℕ
last_line entries = unwrap_or (option_map ended_line (last_of entries)) []

-- the text is the lines of these entries, of at most so many, and the last line, that of an entry with this head, begins there
pub record IsTextOf (text : List ℕ) (most room start : ℕ) (last : Option Head) (entries : List Entry) : Type 0 where
  pub lines : text ≡ flat_map ended_line entries
  pub in_range : All IsEntry entries
  pub counted : length entries + room ≡ most
  pub within : start ≤ length text
  pub begins : drop start text ≡ last_line entries
  pub headed : last ≡ option_map head_of (last_of entries)
