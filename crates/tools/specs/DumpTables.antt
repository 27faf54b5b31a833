-- A command that reads registers one after the other, and prints them as a table (i2c-tools, i2cdump(8); SMBus 3.2,
-- section 6.5).
use Rattle.std.specs.Prelude.{ℕ, ◌+◌, ◌-◌, ◌*◌, ◌/◌, ◌%◌, ◌==◌, nat_le, Bool, false, ◌&&◌, ◌||◌, List, [], ◌∷◌, ◌++◌, slice_get, Option, Some, None, Result, Ok, Err, codes, if◌then◌else◌}
use Rattle.bus_spec.specs.Lines.{errno_text, two_digits}
use Rattle.i2c_base.specs.Errno.{number_of}
use Rattle.i2c_base.specs.declared.reply.Reply.{Reply}
use Rattle.i2c_base.specs.declared.reply.Reply.TheVariants as reply
use Rattle.smb_emul.specs.Calls.{messages_of_call, value_of_call}
use Rattle.smb_emul.specs.Value.{ValueView}
use Rattle.smb_emul.specs.Value as value
use Rattle.smb_emul.specs.declared.call.SmbCall.{SmbCall}
use Rattle.smb_emul.specs.declared.call.SmbFail.{SmbFail}
use Rattle.smb_emul.specs.declared.call.SmbOp.{SmbOp}
use Rattle.smb_emul.specs.declared.call.SmbOp.TheVariants as op
use Rattle.tools.specs.Dialogues.{Dialogue}
use Rattle.tools.specs.Replies.{is_error}
use Rattle.tools.specs.Tables.{trimmed, parts, heading, in_row, row_front}
use Rattle.tools.specs.declared.command.dump.Dump.{Dump}
use Rattle.tools.specs.declared.command.dump.DumpMode.{DumpMode}
use Rattle.tools.specs.declared.command.dump.DumpMode.TheVariants as mode

-- ---- its calls

-- a call for each register of its range; `c` sends the number of the first before, and `i` reads all in blocks of 32
abbrev pub dump_places : DumpMode → (first last : ℕ) → ℕ
dump_places mode.Byte first last = last - first + 1
dump_places mode.Word first last = last - first + 1
dump_places mode.Receive first last = last - first + 2
dump_places mode.I2cBlock first last = 8

abbrev pub dump_op : DumpMode → (first k : ℕ) → SmbOp
dump_op mode.Byte first k = op.ReadByte (first + k)
dump_op mode.Word first k = op.ReadWord (first + k)
dump_op mode.Receive first k = if k == 0 then op.SendByte first else op.ReceiveByte
dump_op mode.I2cBlock first k = op.I2cBlockRead (32 * k) 32

abbrev pub dump_call : Dump → ℕ → SmbCall
dump_call d k = record { bus = d.bus; addr = d.addr; force = d.force; pec = d.pec; op = dump_op d.mode d.first k }

-- the bus isn't there, or a driver has the device
abbrev pub is_refusal : Reply → Bool
is_refusal reply.Done = false
is_refusal (reply.Read bytes) = false
is_refusal (reply.Err e) = (number_of e == 19) || (number_of e == 16)

-- the first reply ends it where it is one of these, and where no number could be sent
abbrev pub is_end : DumpMode → Reply → Bool
is_end mode.Byte r = is_refusal r
is_end mode.Word r = is_refusal r
is_end mode.Receive r = is_error r
is_end mode.I2cBlock r = is_refusal r

-- ---- what it reads

-- the number at a place of a value, if it has one
abbrev pub number_in_value : ℕ → Result ValueView SmbFail → Option ℕ
number_in_value i (Ok value.done) = None
number_in_value i (Ok (value.byte b)) = Some b
number_in_value i (Ok (value.word w)) = Some w
number_in_value i (Ok (value.block bytes)) = slice_get bytes i
number_in_value i (Err fail) = None

abbrev pub number_read : SmbCall → ℕ → Option Reply → Option ℕ
number_read call i None = None
number_read call i (Some r) = number_in_value i (value_of_call call r)

-- the place of the call that reads a register
abbrev pub place_of : DumpMode → (first reg : ℕ) → ℕ
place_of mode.Byte first reg = reg - first
place_of mode.Word first reg = reg - first
place_of mode.Receive first reg = reg - first + 1
place_of mode.I2cBlock first reg = reg / 32

-- the number of a register, where it could be read
abbrev pub register_read : Dump → List Reply → ℕ → Option ℕ
register_read d rs reg =
    let k = place_of d.mode d.first reg in number_read (dump_call d k) (reg % 32) (slice_get rs k)

abbrev pub is_dumped : Dump → ℕ → Bool
is_dumped d reg = nat_le d.first reg && nat_le reg d.last

-- ---- its table of bytes: 16 registers a row, and the sign of each after them

abbrev pub byte_cell : Option ℕ → List ℕ
byte_cell None = codes " XX"
byte_cell (Some b) = 32 ∷ two_digits b

abbrev pub byte_sign : Option ℕ → ℕ
byte_sign None = 88
byte_sign (Some b) = if nat_le 32 b && nat_le b 126 then b else if (b == 0) || (b == 255) then 46 else 63

abbrev pub dump_cell : Dump → List Reply → ℕ → List ℕ
dump_cell d rs reg = if is_dumped d reg then byte_cell (register_read d rs reg) else codes "   "

abbrev pub dump_sign : Dump → List Reply → ℕ → List ℕ
dump_sign d rs reg = (if is_dumped d reg then byte_sign (register_read d rs reg) else 32) ∷ []

abbrev pub byte_row : Dump → List Reply → ℕ → List ℕ
byte_row d rs row =
    trimmed (row_front row
    ++ (parts (in_row (dump_cell d rs) row) 16 ++ (codes "    " ++ parts (in_row (dump_sign d rs) row) 16)))

-- each row that has a register of the range
abbrev pub rows : (width first last : ℕ) → ℕ
rows width first last = last / width - first / width + 1

abbrev pub byte_line : Dump → List Reply → ℕ → List (List ℕ)
byte_line d rs r = byte_row d rs (16 * (d.first / 16 + r)) ∷ []

abbrev pub byte_table : Dump → List Reply → List (List ℕ)
byte_table d rs = (heading ++ codes "    0123456789abcdef") ∷ parts (byte_line d rs) (rows 16 d.first d.last)

-- ---- its table of words: 8 registers a row

abbrev pub word_cell : Option ℕ → List ℕ
word_cell None = codes " XXXX"
word_cell (Some w) = 32 ∷ (two_digits (w / 256) ++ two_digits (w % 256))

abbrev pub dump_word : Dump → List Reply → ℕ → List ℕ
dump_word d rs reg = if is_dumped d reg then word_cell (register_read d rs reg) else codes "     "

abbrev pub word_row : Dump → List Reply → ℕ → List ℕ
word_row d rs row = trimmed (row_front row ++ parts (in_row (dump_word d rs) row) 8)

abbrev pub word_line : Dump → List Reply → ℕ → List (List ℕ)
word_line d rs r = word_row d rs (8 * (d.first / 8 + r)) ∷ []

abbrev pub word_table : Dump → List Reply → List (List ℕ)
word_table d rs = parts (word_line d rs) (rows 8 d.first d.last)

-- ---- what it prints

abbrev pub table_by : DumpMode → Dump → List Reply → List (List ℕ)
table_by mode.Byte d rs = byte_table d rs
table_by mode.Word d rs = word_table d rs
table_by mode.Receive d rs = byte_table d rs
table_by mode.I2cBlock d rs = byte_table d rs

-- such a first reply is told alone
abbrev pub told_alone : Option Reply → List (List ℕ) → List (List ℕ)
told_alone None table = table
told_alone (Some reply.Done) table = table
told_alone (Some (reply.Read bytes)) table = table
told_alone (Some (reply.Err e)) table = if is_refusal (reply.Err e) then errno_text e ∷ [] else table

abbrev pub dump_lines : Dump → List Reply → List (List ℕ)
dump_lines d rs = told_alone (slice_get rs 0) (table_by d.mode d rs)

-- a line of bytes has at most 72 bytes before it is trimmed, and one of words 44
abbrev pub dump_most : DumpMode → (first last : ℕ) → ℕ
dump_most mode.Byte first last = 72 * (rows 16 first last + 1)
dump_most mode.Word first last = 44 * rows 8 first last
dump_most mode.Receive first last = 72 * (rows 16 first last + 1)
dump_most mode.I2cBlock first last = 72 * (rows 16 first last + 1)

-- what it says to the bus
abbrev pub dumps : Dump → Dialogue
dumps d =
    record {
      places = dump_places d.mode d.first d.last;
      at = λ k. messages_of_call (dump_call d k);
      skips = λ k r. if (k == 0) && is_end d.mode r then dump_places d.mode d.first d.last else 0;
      lines = dump_lines d;
      most = dump_most d.mode d.first d.last;
    }
