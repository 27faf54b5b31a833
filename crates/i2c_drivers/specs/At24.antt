-- The driver of EEPROMs (Linux at24; acknowledge polling and page writes are those of Microchip's data sheets 24AA02, 24AA32A and
-- 24AA256). A read goes in pieces of at most 128 bytes (at24's io_limit), and a write in pieces that end at page ends. While the
-- chip doesn't acknowledge, a piece is tried again, eight times in all. That a try is counted and not timed is this project's own.
use Rattle.std.specs.Prelude.{ℕ, ◌+◌, ◌-◌, ◌*◌, ◌/◌, ◌%◌, ◌==◌, min, max, nat_lt, Bool, true, false, not, ◌&&◌, List, [], ◌∷◌, ◌++◌, length, take, drop, Option, Some, None, codes, if◌then◌else◌}
use Rattle.bus_spec.specs.Lines.{errno_text}
use Rattle.i2c_base.specs.Board.{BoardView}
use Rattle.i2c_base.specs.Errno.{number_of}
use Rattle.i2c_base.specs.Transfer.{TransferView, written, plain_read}
use Rattle.i2c_base.specs.declared.board.Size.{Size}
use Rattle.i2c_base.specs.declared.errno.Errno.{Errno}
use Rattle.i2c_base.specs.declared.errno.Errno.TheVariants as errno
use Rattle.i2c_base.specs.declared.reply.Reply.{Reply}
use Rattle.i2c_base.specs.declared.reply.Reply.TheVariants as reply
use Rattle.i2c_base.specs.declared.transfer.TransferKind.TheVariants.{Plain}
use Rattle.i2c_spec.specs.Targets.EepromDevice.{page_of_eeprom, is_wide}
use Rattle.tools.specs.Dialogues.{Dialogue}
use Rattle.i2c_drivers.specs.Bound.{eeprom_at}
use Rattle.i2c_drivers.specs.declared.at24.At24Run.{At24Run}
use Rattle.i2c_drivers.specs.declared.at24.At24Run.TheVariants as run
use Rattle.i2c_drivers.specs.Pages.{PageReadView, PageWriteView, fits_in}
use Rattle.i2c_drivers.specs.Refusals.{refused}
use Rattle.i2c_drivers.specs.Rows.{byte_lines, all_bytes_read, last_reply}

-- the bytes that tell a place, the high one first
abbrev pub place_bytes : Size → ℕ → List ℕ
place_bytes size place = if is_wide size then place / 256 ∷ place % 256 ∷ [] else place % 256 ∷ []

-- ---- a read

abbrev pub PIECE : ℕ
PIECE = 128

abbrev pub read_pieces : PageReadView → ℕ
read_pieces r = (r.count + 127) / PIECE

abbrev pub read_begin : PageReadView → ℕ → ℕ
read_begin r piece = r.offset + PIECE * piece

abbrev pub read_size : PageReadView → ℕ → ℕ
read_size r piece = min PIECE (r.count - PIECE * piece)

-- a piece is told its place, and read
abbrev pub read_piece : PageReadView → ℕ → TransferView
read_piece r piece =
    let front = place_bytes r.of.size (read_begin r piece) in
    record {
      bus = r.of.bus;
      kind = Plain;
      force = true;
      msgs = written r.of.addr (length front) ∷ plain_read r.of.addr (read_size r piece) ∷ [];
      out = front;
    }

-- ---- a write

-- the page of its first byte, and that of its last
abbrev pub first_page : PageWriteView → ℕ
first_page w = w.offset / page_of_eeprom w.of.size

abbrev pub last_page : PageWriteView → ℕ
last_page w = (w.offset + length w.bytes - 1) / page_of_eeprom w.of.size

-- a piece for each page, from its first place or that of the page to its end or that of the page
abbrev pub write_pieces : PageWriteView → ℕ
write_pieces w = last_page w - first_page w + 1

abbrev pub write_begin : PageWriteView → ℕ → ℕ
write_begin w piece = max w.offset (page_of_eeprom w.of.size * (first_page w + piece))

abbrev pub write_end : PageWriteView → ℕ → ℕ
write_end w piece = min (w.offset + length w.bytes) (page_of_eeprom w.of.size * (first_page w + piece + 1))

abbrev pub write_bytes : PageWriteView → ℕ → List ℕ
write_bytes w piece = take (write_end w piece - write_begin w piece) (drop (write_begin w piece - w.offset) w.bytes)

-- a piece is told its place, and its bytes
abbrev pub write_piece : PageWriteView → ℕ → TransferView
write_piece w piece =
    let bytes = place_bytes w.of.size (write_begin w piece) ++ write_bytes w piece in
    record { bus = w.of.bus; kind = Plain; force = true; msgs = written w.of.addr (length bytes) ∷ []; out = bytes }

-- ---- tries

-- a piece has so many places, one for each try
abbrev pub TRIES : ℕ
TRIES = 8

-- nobody acknowledges, and it was not the last try
abbrev pub is_tried_again : (try : ℕ) → Errno → Bool
is_tried_again try e = (number_of e == 6) && nat_lt try 7

-- after a success the tries that are left are passed over, and after an error all places, where it isn't tried again
abbrev pub tries_skipped : (places try : ℕ) → Reply → ℕ
tries_skipped places try reply.Done = 7 - try
tries_skipped places try (reply.Read bytes) = 7 - try
tries_skipped places try (reply.Err e) = if is_tried_again try e then 0 else places

-- ---- lines

-- an error is told by its name, but that the last try was not acknowledged is told as ETIMEDOUT
abbrev pub told_as : Errno → Errno
told_as e = if number_of e == 6 then errno.Etimedout else e

-- why it ended, where the last reply is an error
abbrev pub failure_in : Option Reply → Option Errno
failure_in None = None
failure_in (Some reply.Done) = None
failure_in (Some (reply.Read bytes)) = None
failure_in (Some (reply.Err e)) = Some (told_as e)

abbrev pub failure_of : List Reply → Option Errno
failure_of rs = failure_in (last_reply rs)

-- that alone is told, and else these lines are
abbrev pub unless_failed : Option Errno → List (List ℕ) → List (List ℕ)
unless_failed None lines = lines
unless_failed (Some e) lines = errno_text e ∷ []

-- ---- what they say to the bus

-- a byte is printed as two digits and a space or the end of its line; the name of an error has at most 10 bytes
abbrev pub page_reads : PageReadView → Dialogue
page_reads r =
    record {
      places = TRIES * read_pieces r;
      at = λ k. read_piece r (k / TRIES);
      skips = λ k reply. tries_skipped (TRIES * read_pieces r) (k % TRIES) reply;
      lines = λ rs. unless_failed (failure_of rs) (byte_lines (all_bytes_read rs));
      most = 3 * r.count + 11;
    }

abbrev pub page_writes : PageWriteView → Dialogue
page_writes w =
    record {
      places = TRIES * write_pieces w;
      at = λ k. write_piece w (k / TRIES);
      skips = λ k reply. tries_skipped (TRIES * write_pieces w) (k % TRIES) reply;
      lines = λ rs. unless_failed (failure_of rs) (codes "ok" ∷ []);
      most = 11;
    }

-- ---- how they begin over a board: no bound EEPROM stands there; else it passes the size

abbrev pub eeprom_read_by : Option Size → (bus addr offset count : ℕ) → At24Run
eeprom_read_by None bus addr offset count = run.Refused errno.Enodev
eeprom_read_by (Some size) bus addr offset count =
    if fits_in size offset count then
    run.Reads (record { of = record { bus = bus; addr = addr; size = size }; offset = offset; count = count })
    else run.Refused errno.Einval

abbrev pub read_run : BoardView → (bus addr offset count : ℕ) → At24Run
read_run b bus addr offset count = eeprom_read_by (eeprom_at b bus addr) bus addr offset count

abbrev pub write_by : Option Size → (bus addr offset : ℕ) → List ℕ → At24Run
write_by None bus addr offset bytes = run.Refused errno.Enodev
write_by (Some size) bus addr offset bytes =
    if fits_in size offset (length bytes) then
    run.Writes (record { of = record { bus = bus; addr = addr; size = size }; offset = offset; bytes = bytes })
    else run.Refused errno.Einval

abbrev pub eeprom_write_run : BoardView → (bus addr offset : ℕ) → List ℕ → At24Run
eeprom_write_run b bus addr offset bytes = write_by (eeprom_at b bus addr) bus addr offset bytes

abbrev pub at24_dialogue : At24Run → Dialogue
at24_dialogue (run.Refused e) = refused e
at24_dialogue (run.Reads r) = page_reads r
at24_dialogue (run.Writes w) = page_writes w

-- its transfer at a place is that of the place before: at each try of a piece but the first
abbrev pub is_repeated : ℕ → Bool
is_repeated k = not (k % TRIES == 0)

abbrev pub at24_repeats : At24Run → ℕ → Bool
at24_repeats (run.Refused e) k = false
at24_repeats (run.Reads r) k = is_repeated k
at24_repeats (run.Writes w) k = is_repeated k
