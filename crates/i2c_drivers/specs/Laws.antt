-- What is so of the lines of drivers, whatever the chip, the place and the replies.
use Rattle.std.specs.Prelude.{⊤, ◌≡◌, ℕ, ◌+◌, ◌-◌, ◌/◌, ◌^◌, ◌<◌, min, All, List}
use Rattle.bus_journal.specs.Reports.{IsSectionLine}
use Rattle.i2c_base.specs.Bytes.{AreBytes}
use Rattle.i2c_base.specs.Transfer.{IsTransfer}
use Rattle.i2c_base.specs.declared.reply.Reply.{Reply}
use Rattle.i2c_spec.specs.Targets.EepromDevice.{page_of_eeprom}
use Rattle.tools.specs.Tables.{parts}
use Rattle.i2c_drivers.specs.At24.{read_begin, read_pieces, read_size, write_begin, write_bytes, write_end, write_pieces}
use Rattle.i2c_drivers.specs.Pages.{IsPageRead, IsPageWrite, PageReadView, PageWriteView}
use Rattle.i2c_drivers.specs.Runs.{driver_dialogue}
use Rattle.i2c_drivers.specs.declared.at24.At24Run.TheVariants as at24
use Rattle.i2c_drivers.specs.declared.lm75.Lm75Run.TheVariants as lm75
use Rattle.i2c_drivers.specs.declared.run.DriverRun.{DriverRun}
use Rattle.i2c_drivers.specs.declared.run.DriverRun.TheVariants as run

-- ---- the pieces of a read and of a write

-- the bytes of the pieces, one after the other, are those of the write
abbrev pub PiecesAreTheWrite : Type 0
PiecesAreTheWrite = (w : PageWriteView) → IsPageWrite w → parts (write_bytes w) (write_pieces w) ≡ w.bytes

-- no piece of a write goes past the end of a page: its first and its last byte are of one page
abbrev pub PiecesKeepToPages : Type 0
PiecesKeepToPages = (w : PageWriteView) → IsPageWrite w → (piece : ℕ) → piece < write_pieces w
    → (write_end w piece - 1) / page_of_eeprom w.of.size ≡ write_begin w piece / page_of_eeprom w.of.size

-- no piece is empty
abbrev pub PiecesHaveBytes : Type 0
PiecesHaveBytes = (w : PageWriteView) → IsPageWrite w → (piece : ℕ) → piece < write_pieces w → write_begin w piece < write_end w piece

-- each piece of a read ends where the next one begins, and the last one where the read ends
abbrev pub PiecesAreTheRead : Type 0
PiecesAreTheRead = (r : PageReadView) → (piece : ℕ) → piece < read_pieces r
    → read_begin r piece + read_size r piece ≡ min (r.offset + r.count) (read_begin r (piece + 1))

-- ---- all lines

-- the numbers of a line are those that its types have; addresses don't matter, since no call has an error code
abbrev pub IsInRange : DriverRun → Type 0
IsInRange (run.At24 (at24.Refused e)) = ⊤
IsInRange (run.At24 (at24.Reads r)) = IsPageRead r
IsInRange (run.At24 (at24.Writes w)) = IsPageWrite w × AreBytes w.bytes
IsInRange (run.Lm75 (lm75.Refused e)) = ⊤
IsInRange (run.Lm75 (lm75.Reads s which)) = ⊤
IsInRange (run.Lm75 (lm75.Writes s which word)) = word < 2 ^ 16
IsInRange (run.Sensors ss) = ⊤

-- each of its transfers is within the limits
abbrev pub AsksWithinLimits : Type 0
AsksWithinLimits = (r : DriverRun) → IsInRange r → (k : ℕ) → k < (driver_dialogue r).places
    → IsTransfer ((driver_dialogue r).at k).msgs ((driver_dialogue r).at k).out

-- what it prints is lines of a section, so that none is `journal`
abbrev pub NoLineIsJournal : Type 0
NoLineIsJournal = (r : DriverRun) (replies : List Reply) → All IsSectionLine ((driver_dialogue r).lines replies)
