-- The entries that there are: each field within the range of its type.
use Rattle.std.specs.Prelude.{⊤, ◌≡◌, ℕ, ◌<◌, ◌≤◌, List, length, Option, Some, None}
use Rattle.bus_spec.specs.Lines.{entry_line}
use Rattle.i2c_base.specs.Addr.{IsTargetAddress}
use Rattle.i2c_base.specs.Bytes.{AreBytes}
use Rattle.i2c_base.specs.Limits.{MOST_BYTES, MOST_LENGTH}
use Rattle.i2c_base.specs.declared.ids.LockId.{LockId}
use Rattle.i2c_base.specs.declared.ids.LockId.TheVariants as lock
use Rattle.i2c_base.specs.declared.ids.Node.{Node}
use Rattle.i2c_base.specs.declared.ids.Node.TheVariants as node
use Rattle.i2c_base.specs.declared.reply.Reply.{Reply}
use Rattle.i2c_base.specs.declared.reply.Reply.TheVariants as reply
use Rattle.i2c_base.specs.declared.reply.Cut.{Cut}
use Rattle.i2c_base.specs.declared.reply.Cut.TheVariants as cut
use Rattle.i2c_base.specs.declared.entry.Purpose.{Purpose}
use Rattle.i2c_base.specs.declared.entry.Purpose.TheVariants as purpose
use Rattle.i2c_base.specs.declared.entry.End.{End}
use Rattle.i2c_base.specs.declared.entry.End.TheVariants as end
use Rattle.i2c_base.specs.declared.entry.Entry.{Entry}
use Rattle.i2c_base.specs.declared.entry.Entry.TheVariants as entry

-- a number of 8 bits, as a caller's, and one of 16, as a bus's or a mux's
abbrev pub IsSmall : ℕ → Type 0
IsSmall n = n < 256

abbrev pub IsWide : ℕ → Type 0
IsWide n = n < 65536

abbrev pub IsLock : LockId → Type 0
IsLock (lock.Bus root) = IsWide root
IsLock (lock.Mux bus) = IsWide bus

abbrev pub IsPurpose : Purpose → Type 0
IsPurpose purpose.Call = ⊤
IsPurpose (purpose.Control mux) = IsWide mux

abbrev pub IsNode : Node → Type 0
IsNode (node.Device d) = IsWide d
IsNode (node.Chip m) = IsWide m

abbrev pub IsHeard : Option Node → Type 0
IsHeard None = ⊤
IsHeard (Some n) = IsNode n

abbrev pub IsEnd : End → Type 0
IsEnd (end.Cut calls) = IsWide calls
IsEnd _ = ⊤

-- bytes, at most so many
abbrev pub IsRun : ℕ → List ℕ → Type 0
IsRun most bytes = AreBytes bytes × (length bytes ≤ most)

-- a transfer reads at most 4,096 bytes
abbrev pub IsReply : Reply → Type 0
IsReply (reply.Read bytes) = IsRun MOST_BYTES bytes
IsReply _ = ⊤

abbrev pub IsCut : Cut → Type 0
IsCut (cut.At msg call) = IsSmall msg × IsWide call
IsCut _ = ⊤

-- a message has at most 512 bytes
pub record IsMessage (caller bus : ℕ) (purpose : Purpose) (part parts addr : ℕ) (bytes : List ℕ) (heard : Option Node)
    (end : End) : Type 0 where
  pub caller_is : IsSmall caller
  pub bus_is : IsWide bus
  pub purpose_is : IsPurpose purpose
  pub part_is : IsSmall part
  pub parts_is : IsSmall parts
  pub addr_is : IsTargetAddress addr
  pub bytes_is : IsRun MOST_LENGTH bytes
  pub heard_is : IsHeard heard
  pub end_is : IsEnd end

abbrev pub IsEntry : Entry → Type 0
IsEntry (entry.Take caller lock) = IsSmall caller × IsLock lock
IsEntry (entry.Free caller lock) = IsSmall caller × IsLock lock
IsEntry (entry.Message caller bus purpose part parts addr reading bytes heard end) =
    IsMessage caller bus purpose part parts addr bytes heard end
IsEntry (entry.Line caller mux level failed) = IsSmall caller × IsWide mux × IsSmall level
IsEntry (entry.Settle caller reply cut) = IsSmall caller × IsReply reply × IsCut cut

-- two entries with one line are one entry
abbrev pub LinesAreDistinct : Type 0
LinesAreDistinct = (e f : Entry) → IsEntry e → IsEntry f → entry_line e ≡ entry_line f → e ≡ f
