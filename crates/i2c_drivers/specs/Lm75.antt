-- The driver of temperature sensors (Linux lm75; SMBus 3.2, section 6.5, for the calls).
use Rattle.std.specs.Prelude.{ℕ, ◌+◌, ◌*◌, ◌/◌, ◌%◌, ℤ, pos, ◌*ℤ◌, int_div, true, false, List, [], ◌∷◌, slice_index_or, Result, Ok, Err, codes, if◌then◌else◌}
use Rattle.std.specs.Fmt.{signed_decimal}
use Rattle.std.specs.Int.{cast_signed, cast_unsigned, int_div_euclid, w16}
use Rattle.bus_spec.specs.Lines.{errno_text}
use Rattle.i2c_base.specs.Board.{BoardView}
use Rattle.i2c_base.specs.declared.errno.Errno.TheVariants as errno
use Rattle.i2c_base.specs.declared.reply.Reply.{Reply}
use Rattle.i2c_base.specs.declared.reply.Reply.TheVariants as reply
use Rattle.smb_emul.specs.Calls.{messages_of_call, value_of_call}
use Rattle.smb_emul.specs.Value.{ValueView}
use Rattle.smb_emul.specs.Value as value
use Rattle.smb_emul.specs.declared.call.SmbCall.{SmbCall}
use Rattle.smb_emul.specs.declared.call.SmbFail.{SmbFail}
use Rattle.smb_emul.specs.declared.call.SmbFail.TheVariants as fail
use Rattle.smb_emul.specs.declared.call.SmbOp.{SmbOp}
use Rattle.smb_emul.specs.declared.call.SmbOp.TheVariants as op
use Rattle.tools.specs.Dialogues.{Dialogue}
use Rattle.i2c_drivers.specs.Bound.{sensor_at}
use Rattle.i2c_drivers.specs.Refusals.{refused}
use Rattle.i2c_drivers.specs.declared.bound.Sensor.{Sensor}
use Rattle.i2c_drivers.specs.declared.lm75.Lm75Run.{Lm75Run}
use Rattle.i2c_drivers.specs.declared.lm75.Lm75Run.TheVariants as run
use Rattle.tools.specs.declared.command.driver.lm75.RegName.{RegName}
use Rattle.tools.specs.declared.command.driver.lm75.RegName.TheVariants.{Temp, Hyst, Max}

-- ---- numbers

-- the bytes of a word exchanged: SMBus has the low byte of a word first, and the sensor the high byte of a register
abbrev pub swapped : ℕ → ℕ
swapped word = 256 * (word % 256) + word / 256

-- thousandths of a degree: a register, as a signed number, has 128 for each half of a degree, and is rounded down
abbrev pub milli_of : ℕ → ℤ
milli_of raw = int_div_euclid (cast_signed w16 raw) (pos 128) *ℤ pos 500

-- the register that stands for these
abbrev pub raw_of : ℤ → ℕ
raw_of milli = cast_unsigned w16 (int_div milli (pos 500) *ℤ pos 128)

-- ---- calls

-- the number of a register (the data sheets of TI and NXP, "pointer register")
abbrev pub pointer_of : RegName → ℕ
pointer_of Temp = 0
pointer_of Hyst = 2
pointer_of Max = 3

-- a call to a sensor, whose driver makes it
abbrev pub sensor_call : Sensor → SmbOp → SmbCall
sensor_call s o = record { bus = s.bus; addr = s.addr; force = true; pec = false; op = o }

abbrev pub read_call : Sensor → RegName → SmbCall
read_call s which = sensor_call s (op.ReadWord (pointer_of which))

abbrev pub write_call : Sensor → RegName → (word : ℕ) → SmbCall
write_call s which word = sensor_call s (op.WriteWord (pointer_of which) word)

-- ---- texts

-- what was read in thousandths of a degree, or why it wasn't
abbrev pub degrees_text : ValueView → List ℕ
degrees_text value.done = []
degrees_text (value.byte b) = []
degrees_text (value.word w) = signed_decimal (milli_of (swapped w))
degrees_text (value.block bytes) = []

abbrev pub outcome_text : Result ValueView SmbFail → List ℕ
outcome_text (Ok v) = degrees_text v
outcome_text (Err (fail.Errno e)) = errno_text e
outcome_text (Err (fail.Pec got want)) = errno_text errno.Ebadmsg

abbrev pub reading_text : Sensor → RegName → Reply → List ℕ
reading_text s which r = outcome_text (value_of_call (read_call s which) r)

-- that it was written, or why it wasn't
abbrev pub written_text : Reply → List ℕ
written_text reply.Done = codes "ok"
written_text (reply.Read bytes) = codes "ok"
written_text (reply.Err e) = errno_text e

-- ---- what they say to the bus. The name of an error has at most 10 bytes

abbrev pub register_reads : Sensor → RegName → Dialogue
register_reads s which =
    record {
      places = 1;
      at = λ k. messages_of_call (read_call s which);
      skips = λ k r. 0;
      lines = λ rs. reading_text s which (slice_index_or rs 0 reply.Done) ∷ [];
      most = 11;
    }

abbrev pub register_writes : Sensor → RegName → (word : ℕ) → Dialogue
register_writes s which word =
    record {
      places = 1;
      at = λ k. messages_of_call (write_call s which word);
      skips = λ k r. 0;
      lines = λ rs. written_text (slice_index_or rs 0 reply.Done) ∷ [];
      most = 11;
    }

abbrev pub lm75_dialogue : Lm75Run → Dialogue
lm75_dialogue (run.Refused e) = refused e
lm75_dialogue (run.Reads s which) = register_reads s which
lm75_dialogue (run.Writes s which word) = register_writes s which word

-- ---- how they begin over a board: no bound sensor stands there, or its register is read or written

abbrev pub sensor_read_run : BoardView → (bus addr : ℕ) → RegName → Lm75Run
sensor_read_run b bus addr which =
    if sensor_at b bus addr then run.Reads (record { bus = bus; addr = addr }) which else run.Refused errno.Enodev

abbrev pub sensor_write_run : BoardView → (bus addr : ℕ) → RegName → ℤ → Lm75Run
sensor_write_run b bus addr which milli =
    if sensor_at b bus addr then run.Writes (record { bus = bus; addr = addr }) which (swapped (raw_of milli)) else run.Refused errno.Enodev
