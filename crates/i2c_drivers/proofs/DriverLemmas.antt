-- What is so of each line of a driver: its transfers are within the limits where its fields are in their ranges, and what it prints is
-- lines of a section.
use Rattle.std.proofs.Common.{◌≡◌, ℕ, zero, suc, ◌+◌, ◌*◌, ◌/◌, ◌%◌, ◌^◌, ◌<◌, ◌≤◌, inl, inr, true, false, cond, List, [], ◌∷◌, ◌++◌}
use Rattle.std.proofs.Common.{length, map, zip, take, drop, codes, get_or, Option, Some, None, Ok, Err, refl, sym, ap, subst, arith}
use Rattle.std.specs.Prelude.{All, slice_get, slice_index_or, ℤ, pos, negsuc, neg_ℤ, ◌*ℤ◌, ◌==◌, Result}
use Rattle.std.specs.Fmt.{decimal, digits, digits_onto, digit_glyph, signed_decimal}
use Rattle.std.specs.Int.{cast_unsigned, w16}
use Rattle.std.proofs.Math.IntN.{negsuc-*ℤ-pos}
use Rattle.std.proofs.lemmas.Bool.Decides.{leb_tells, nat_tests}
use Rattle.std.proofs.lemmas.List.Elements.{All-nil, All-cons}
use Rattle.bus_journal.specs.Reports.{IsLine, IsSectionLine}
use Rattle.bus_journal.proofs.LineFeeds.{decimal-line, line-append, two_digits-line, spaced-line}
use Rattle.bus_spec.specs.Lines.{errno_text, joined, spaced, two_digits}
use Rattle.i2c_base.specs.Board.{BoardView}
use Rattle.i2c_base.specs.Bytes.{AreBytes}
use Rattle.i2c_base.specs.declared.errno.Errno.{Errno}
use Rattle.i2c_base.specs.declared.errno.Errno.TheVariants as errno
use Rattle.i2c_base.specs.declared.reply.Reply.{Reply}
use Rattle.i2c_base.specs.declared.reply.Reply.TheVariants as reply
use Rattle.smb_emul.specs.Calls.{messages_of_call, value_of_call}
use Rattle.i2c_base.specs.declared.board.Size.{Size}
use Rattle.i2c_spec.specs.Targets.EepromDevice.{size_of_eeprom}
use Rattle.smb_emul.specs.Value as value
use Rattle.smb_emul.specs.Value.{ValueView}
use Rattle.smb_emul.specs.declared.call.SmbFail.{SmbFail}
use Rattle.smb_emul.specs.declared.call.SmbFail.TheVariants as fail
use Rattle.tools.specs.DriverLines.{IsDriverInRange}
use Rattle.tools.specs.Lm75Lines.{IsMilli}
use Rattle.tools.specs.declared.command.driver.DriverCmd.{DriverCmd}
use Rattle.tools.specs.declared.command.driver.DriverCmd.TheVariants as driver
use Rattle.tools.proofs.TableLemmas.{rows_section}
use Rattle.tools.proofs.TransferLemmas.{IsAsk, call_asks, short_byte, short_bytes, word_bytes}
use Rattle.tools.proofs.ValueLemmas.{others, result_line, errno as errno_line}
use Rattle.i2c_drivers.specs.At24.{failure_of, eeprom_read_by, read_run, unless_failed, write_by, eeprom_write_run}
use Rattle.i2c_drivers.specs.Bound.{eeprom_at, sensor_at}
use Rattle.i2c_drivers.specs.Lm75.{milli_of, outcome_text, pointer_of, raw_of, read_call, reading_text, sensor_read_run, sensor_write_run}
use Rattle.i2c_drivers.specs.Lm75.{swapped, degrees_text, write_call, written_text}
use Rattle.i2c_drivers.specs.Laws.{IsInRange, AsksWithinLimits, NoLineIsJournal}
use Rattle.i2c_drivers.specs.Pages.{PageReadView, PageWriteView}
use Rattle.i2c_drivers.specs.Rows.{byte_lines, all_bytes_read}
use Rattle.i2c_drivers.specs.Runs.{driver_dialogue, driver_run}
use Rattle.i2c_drivers.specs.Sensors.{line_of, sensor_line, sensor_name, sensor_transfer}
use Rattle.i2c_drivers.specs.declared.at24.At24Run.TheVariants as at24
use Rattle.i2c_drivers.specs.declared.bound.Sensor.{Sensor}
use Rattle.i2c_drivers.specs.declared.lm75.Lm75Run.TheVariants as lm75
use Rattle.tools.specs.declared.command.driver.lm75.RegName.{RegName}
use Rattle.tools.specs.declared.command.driver.lm75.RegName.TheVariants.{Temp, Hyst, Max}
use Rattle.i2c_drivers.specs.declared.run.DriverRun.{DriverRun}
use Rattle.i2c_drivers.specs.declared.run.DriverRun.TheVariants as run
use Rattle.i2c_drivers.proofs.PageLemmas.{read_asks, write_asks}
use Rattle.tools.proofs.FormLemmas.{one_line}

-- each of its transfers is within the limits
abbrev pub AsksWithin : DriverRun → Type 0
AsksWithin r = (k : ℕ) → k < (driver_dialogue r).places → IsAsk ((driver_dialogue r).at k)

-- whatever the replies, what it prints is lines, of which none is `journal`
abbrev pub HasSectionLines : DriverRun → Type 0
HasSectionLines r = (replies : List Reply) → All IsSectionLine ((driver_dialogue r).lines replies)

-- ---- its transfers

pointer_small : (which : RegName) → pointer_of which < 256
pointer_small Temp = omega arith
pointer_small Hyst = omega arith
pointer_small Max = omega arith

pub reading_asks : (s : Sensor) (which : RegName) → IsAsk (messages_of_call (read_call s which))
reading_asks s which =
    call_asks (read_call s which) (λ e. absurd cc) (short_byte (pointer_of which) (pointer_small which)) (omega arith, omega arith)
    (omega arith)

writing_asks : (s : Sensor) (which : RegName) (word : ℕ) → word < 2 ^ 16 → IsAsk (messages_of_call (write_call s which word))
writing_asks s which word small =
    call_asks (write_call s which word) (λ e. absurd cc)
    (short_bytes (pointer_of which) _ (pointer_small which) (word_bytes word small) (omega arith)) tt (omega arith)

sensors_ask : (ss : List Sensor) (k : ℕ) → k < length ss → IsAsk (sensor_transfer (slice_get ss k))
sensors_ask [] k within = absurd (omega (arith, within))
sensors_ask (s ∷ ss) zero within = reading_asks s Temp
sensors_ask (s ∷ ss) (suc k) within = sensors_ask ss k (omega (arith, within))

pub asks : (r : DriverRun) → IsInRange r → AsksWithin r
asks (run.At24 (at24.Refused e)) is k within = absurd (omega arith)
asks (run.At24 (at24.Reads r)) is k within = read_asks r is k within
asks (run.At24 (at24.Writes w)) is k within = write_asks w is.0 is.1 k within
asks (run.Lm75 (lm75.Refused e)) is k within = absurd (omega arith)
asks (run.Lm75 (lm75.Reads s which)) is k within = reading_asks s which
asks (run.Lm75 (lm75.Writes s which word)) is k within = writing_asks s which word is
asks (run.Sensors ss) is k within = sensors_ask ss k within

-- ---- its lines

done_line : IsSectionLine (codes "ok")
done_line = result_line (Ok value.done)

-- a text whose first sign comes before j
abbrev IsLow : List ℕ → Type 0
IsLow text = get_or text 0 0 < 106

low_section : (text : List ℕ) → IsLine text → IsLow text → IsSectionLine text
low_section text one low = record { one = one; other = others text (get_or text 0 0) refl low }

-- a number begins with a digit. The induction goes over its digits
digit_low : (d : ℕ) → d < 10 → digit_glyph false d < 106
digit_low d small = grind (arith, nat_tests)

digits_low : (k n : ℕ) (behind : List ℕ) → IsLow behind → IsLow (digits_onto k 10 false n behind)
digits_low zero n behind low = low
digits_low (suc k) n behind low =
    let c : ℕ = digit_glyph false (n % 10) in
    let first : IsLow (c ∷ behind) = digit_low (n % 10) (omega arith) in
    elim (n / 10 == 0) as (λ t. IsLow (cond t (c ∷ behind) (digits_onto k 10 false (n / 10) (c ∷ behind)))) [
      | true ↦ first
      | false ↦ digits_low k (n / 10) (c ∷ behind) first
    ]

decimal_low : (n : ℕ) → IsLow (decimal n)
unfolding digits
decimal_low n = digits_low 64 n [] (omega arith)

signed_line : (z : ℤ) → IsLine (signed_decimal z)
signed_line (pos n) = decimal-line n
signed_line (negsuc n) = line-append (codes "-") (decimal (suc n)) refl (decimal-line (suc n))

signed_low : (z : ℤ) → IsLow (signed_decimal z)
signed_low (pos n) = decimal_low n
signed_low (negsuc n) = omega arith

value_line : (v : ValueView) → IsSectionLine (degrees_text v)
value_line value.done = low_section [] refl (omega arith)
value_line (value.byte b) = low_section [] refl (omega arith)
value_line (value.word w) =
    low_section (signed_decimal (milli_of (swapped w))) (signed_line (milli_of (swapped w))) (signed_low (milli_of (swapped w)))
value_line (value.block bytes) = low_section [] refl (omega arith)

outcome_line : (r : Result ValueView SmbFail) → IsSectionLine (outcome_text r)
outcome_line (Ok v) = value_line v
outcome_line (Err (fail.Errno e)) = errno_line e
outcome_line (Err (fail.Pec got want)) = errno_line errno.Ebadmsg

written_line : (r : Reply) → IsSectionLine (written_text r)
written_line reply.Done = done_line
written_line (reply.Read bytes) = done_line
written_line (reply.Err e) = errno_line e

-- of a sensor
low_front : (d behind text : List ℕ) → IsLow d → IsLow ((d ++ 45 ∷ behind) ++ text)
low_front [] behind text low = omega arith
low_front (c ∷ d) behind text low = low

name_line : (s : Sensor) → IsLine (sensor_name s)
name_line s =
    line-append (decimal s.bus) (codes "-00" ++ (two_digits s.addr ++ codes " ")) (decimal-line s.bus)
    (line-append (codes "-00") (two_digits s.addr ++ codes " ") refl
    (line-append (two_digits s.addr) (codes " ") (two_digits-line s.addr) refl))

sensor_section : (s : Sensor) (r : Reply) → IsSectionLine (sensor_line s r)
sensor_section s r =
    low_section (sensor_line s r)
    (line-append (sensor_name s) (reading_text s Temp r) (name_line s) (outcome_line (value_of_call (read_call s Temp) r)).one)
    (low_front (decimal s.bus) (codes "00" ++ (two_digits s.addr ++ codes " ")) (reading_text s Temp r) (decimal_low s.bus))

sensor_lines : (ss : List Sensor) (rs : List Reply) → All IsSectionLine (map line_of (zip ss rs))
sensor_lines [] rs = All-nil IsSectionLine
sensor_lines (s ∷ ss) [] = All-nil IsSectionLine
sensor_lines (s ∷ ss) (r ∷ rs) =
    All-cons IsSectionLine (sensor_line s r) (map line_of (zip ss rs)) (sensor_section s r) (sensor_lines ss rs)

third_low : (b : ℕ) (bytes : List ℕ) → get_or (joined (b ∷ bytes)) 2 0 < 117
third_low b [] = omega arith
third_low b (c ∷ bytes) = omega arith

joined_section : (bytes : List ℕ) → IsSectionLine (joined bytes)
joined_section [] = low_section [] refl (omega arith)
joined_section (b ∷ bytes) =
    record {
      one = line-append (two_digits b) (spaced bytes) (two_digits-line b) (spaced-line bytes);
      other = λ e. let third : get_or (joined (b ∷ bytes)) 2 0 ≡ 117 = ap (λ t. get_or t 2 0) e in omega (arith, third, third_low b bytes);
    }

byte_sections : (bytes : List ℕ) → All IsSectionLine (byte_lines bytes)
byte_sections bytes =
    rows_section (λ row. joined (take 16 (drop (16 * row) bytes))) ((length bytes + 15) / 16)
    (λ row. joined_section (take 16 (drop (16 * row) bytes)))

unless_section : (o : Option Errno) (lines : List (List ℕ)) → All IsSectionLine lines → All IsSectionLine (unless_failed o lines)
unless_section None lines are = are
unless_section (Some e) lines are = one_line (errno_text e) (errno_line e)

pub answers : (r : DriverRun) → HasSectionLines r
answers (run.At24 (at24.Refused e)) rs = one_line (errno_text e) (errno_line e)
answers (run.At24 (at24.Reads r)) rs = unless_section (failure_of rs) (byte_lines (all_bytes_read rs)) (byte_sections (all_bytes_read rs))
answers (run.At24 (at24.Writes w)) rs = unless_section (failure_of rs) (codes "ok" ∷ []) (one_line (codes "ok") done_line)
answers (run.Lm75 (lm75.Refused e)) rs = one_line (errno_text e) (errno_line e)
answers (run.Lm75 (lm75.Reads s which)) rs =
    one_line (reading_text s which (slice_index_or rs 0 reply.Done))
    (outcome_line (value_of_call (read_call s which) (slice_index_or rs 0 reply.Done)))
answers (run.Lm75 (lm75.Writes s which word)) rs =
    one_line (written_text (slice_index_or rs 0 reply.Done)) (written_line (slice_index_or rs 0 reply.Done))
answers (run.Sensors ss) rs = sensor_lines ss rs

-- ---- as laws

pub asks_within_limits : AsksWithinLimits
asks_within_limits r is k within = (asks r is k within).fits

pub no_journal : NoLineIsJournal
no_journal r replies = answers r replies

-- ---- what is opened over a board is in range

read_range : (o : Option Size) (bus addr offset count : ℕ) → 1 ≤ count → IsInRange (run.At24 (eeprom_read_by o bus addr offset count))
read_range None bus addr offset count some = tt
read_range (Some size) bus addr offset count some =
    let r : PageReadView = record { of = record { bus = bus; addr = addr; size = size }; offset = offset; count = count } in
    elim (leb_tells (offset + count) (size_of_eeprom size)) [
      | inl x ↦ subst (λ t. IsInRange (run.At24 (cond t (at24.Reads r) (at24.Refused errno.Einval)))) (sym x.0)
          (record { some = some; within = x.1 })
      | inr x ↦ subst (λ t. IsInRange (run.At24 (cond t (at24.Reads r) (at24.Refused errno.Einval)))) (sym x.0) tt
    ]

pub read_opened : (b : BoardView) (bus addr offset count : ℕ) → 1 ≤ count → IsInRange (run.At24 (read_run b bus addr offset count))
read_opened b bus addr offset count some = read_range (eeprom_at b bus addr) bus addr offset count some

write_range : (o : Option Size) (bus addr offset : ℕ) (bytes : List ℕ) → 1 ≤ length bytes → length bytes ≤ 64 → AreBytes bytes
    → IsInRange (run.At24 (write_by o bus addr offset bytes))
write_range None bus addr offset bytes some few each = tt
write_range (Some size) bus addr offset bytes some few each =
    let w : PageWriteView = record { of = record { bus = bus; addr = addr; size = size }; offset = offset; bytes = bytes } in
    elim (leb_tells (offset + length bytes) (size_of_eeprom size)) [
      | inl x ↦ subst (λ t. IsInRange (run.At24 (cond t (at24.Writes w) (at24.Refused errno.Einval)))) (sym x.0)
          (record { some = some; few = few; within = x.1 }, each)
      | inr x ↦ subst (λ t. IsInRange (run.At24 (cond t (at24.Writes w) (at24.Refused errno.Einval)))) (sym x.0) tt
    ]

pub write_opened : (b : BoardView) (bus addr offset : ℕ) (bytes : List ℕ) → 1 ≤ length bytes → length bytes ≤ 64 → AreBytes bytes
    → IsInRange (run.At24 (eeprom_write_run b bus addr offset bytes))
write_opened b bus addr offset bytes some few each = write_range (eeprom_at b bus addr) bus addr offset bytes some few each

pub sensor_read_opened : (b : BoardView) (bus addr : ℕ) (which : RegName)
    → IsInRange (run.Lm75 (sensor_read_run b bus addr which))
sensor_read_opened b bus addr which =
    elim (sensor_at b bus addr) as
    (λ t. IsInRange (run.Lm75 (cond t (lm75.Reads (record { bus = bus; addr = addr }) which) (lm75.Refused errno.Enodev)))) [
      | true ↦ tt
      | false ↦ tt
    ]

-- a register has 16 bits
minus_small : (k : ℕ) → cast_unsigned w16 (neg_ℤ (pos k)) < 65536
minus_small zero = omega arith
minus_small (suc k) = omega arith

below_small : (m : ℕ) → cast_unsigned w16 (neg_ℤ (pos m) *ℤ pos 128) < 65536
below_small zero = omega arith
below_small (suc m) = subst (λ z. cast_unsigned w16 z < 65536) (sym (negsuc-*ℤ-pos m 128)) (minus_small (suc m * 128))

pub raw_small : (z : ℤ) → IsMilli z → raw_of z < 65536
raw_small (pos n) is = grind (arith, nat_tests, is.high)
raw_small (negsuc n) is = below_small (suc n / 500)

word_small : (z : ℤ) → IsMilli z → swapped (raw_of z) < 2 ^ 16
word_small z is = omega (arith, raw_small z is)

pub sensor_write_opened : (b : BoardView) (bus addr : ℕ) (which : RegName) (milli : ℤ) → IsMilli milli
    → IsInRange (run.Lm75 (sensor_write_run b bus addr which milli))
sensor_write_opened b bus addr which milli is =
    let word : ℕ = swapped (raw_of milli) in
    elim (sensor_at b bus addr) as
    (λ t. IsInRange (run.Lm75 (cond t (lm75.Writes (record { bus = bus; addr = addr }) which word) (lm75.Refused errno.Enodev)))) [
      | true ↦ word_small milli is
      | false ↦ tt
    ]

-- of each line
pub opened : (b : BoardView) (c : DriverCmd) → IsDriverInRange c → IsInRange (driver_run b c)
opened b (driver.At24Read r) is = read_opened b r.bus r.addr r.offset r.count is.some
opened b (driver.At24Write w) is = write_opened b w.bus w.addr w.offset w.bytes is.some is.few is.bytes
opened b (driver.Lm75Read r) is = sensor_read_opened b r.bus r.addr r.which
opened b (driver.Lm75Write w) is = sensor_write_opened b w.bus w.addr w.which w.milli is.milli
opened b driver.Sensors is = tt
