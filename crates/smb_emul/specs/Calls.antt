-- What is read off the row of a call: its messages, the bytes that its error code is of, and its value.
use Rattle.std.specs.Prelude.{⊤, ℕ, ◌+◌, ◌-◌, ◌*◌, ◌≤◌, ◌==◌, ◌&&◌, Bool, true, false, Option, Some, None, Result, Ok, Err, List, [], ◌∷◌, ◌++◌, length, take, drop, slice_index, if◌then◌else◌}
use Rattle.i2c_base.specs.Limits.{I2C_BLOCK_LIMIT, LARGEST_BLOCK}
use Rattle.i2c_base.specs.Transfer.{TransferView, written, plain_read, counted_read}
use Rattle.i2c_base.specs.declared.reply.Reply.{Reply}
use Rattle.i2c_base.specs.declared.reply.Reply.TheVariants as reply
use Rattle.i2c_base.specs.declared.transfer.TransferKind.TheVariants.{Smbus}
use Rattle.i2c_base.specs.declared.transfer.Msg.{Msg}
use Rattle.i2c_spec.specs.SmbusCalls.{quick_row, send_byte_row, receive_byte_row, write_byte_row, read_byte_row, write_word_row, read_word_row, proc_call_row, block_write_row, block_read_row, block_proc_row, i2c_block_write_row, i2c_block_read_row}
use Rattle.i2c_spec.specs.declared.smbus_row.CallRow.{CallRow}
use Rattle.i2c_spec.specs.declared.smbus_row.ReadShape.{ReadShape}
use Rattle.i2c_spec.specs.declared.smbus_row.ReadShape.TheVariants as read
use Rattle.i2c_spec.specs.declared.smbus_row.ValueShape.{ValueShape}
use Rattle.i2c_spec.specs.declared.smbus_row.ValueShape.TheVariants as shape
use Rattle.smb_emul.specs.declared.call.SmbCall.{SmbCall}
use Rattle.smb_emul.specs.declared.call.SmbOp.{SmbOp}
use Rattle.smb_emul.specs.declared.call.SmbOp.TheVariants as op
use Rattle.smb_emul.specs.declared.call.SmbFail.{SmbFail}
use Rattle.smb_emul.specs.declared.call.SmbFail.TheVariants as fail
use Rattle.smb_emul.specs.Value as value
use Rattle.smb_emul.specs.Value.{ValueView}
use Rattle.smb_pec.specs.LongDivision.{pec}

abbrev pub call_row : SmbOp → CallRow
call_row op.Quick = quick_row
call_row (op.SendByte b) = send_byte_row b
call_row op.ReceiveByte = receive_byte_row
call_row (op.WriteByte c b) = write_byte_row c b
call_row (op.ReadByte c) = read_byte_row c
call_row (op.WriteWord c v) = write_word_row c v
call_row (op.ReadWord c) = read_word_row c
call_row (op.ProcCall c v) = proc_call_row c v
call_row (op.BlockWrite c bytes) = block_write_row c bytes.now
call_row (op.BlockRead c) = block_read_row c
call_row (op.BlockProc c bytes) = block_proc_row c bytes.now
call_row (op.I2cBlockWrite c bytes) = i2c_block_write_row c bytes.now
call_row (op.I2cBlockRead c n) = i2c_block_read_row c n

-- a block has 1 to 255 bytes, and an I2C block 1 to 32
abbrev pub IsBlockLength : ℕ → ℕ → Type 0
IsBlockLength most n = (1 ≤ n) × (n ≤ most)

abbrev pub HasBlock : SmbOp → Type 0
HasBlock op.Quick = ⊤
HasBlock (op.SendByte b) = ⊤
HasBlock op.ReceiveByte = ⊤
HasBlock (op.WriteByte c b) = ⊤
HasBlock (op.ReadByte c) = ⊤
HasBlock (op.WriteWord c v) = ⊤
HasBlock (op.ReadWord c) = ⊤
HasBlock (op.ProcCall c v) = ⊤
HasBlock (op.BlockWrite c bytes) = IsBlockLength LARGEST_BLOCK (length bytes.now)
HasBlock (op.BlockRead c) = ⊤
HasBlock (op.BlockProc c bytes) = IsBlockLength LARGEST_BLOCK (length bytes.now)
HasBlock (op.I2cBlockWrite c bytes) = IsBlockLength I2C_BLOCK_LIMIT (length bytes.now)
HasBlock (op.I2cBlockRead c n) = IsBlockLength I2C_BLOCK_LIMIT n

-- a plain read asks for 1 to 32 bytes
abbrev pub IsShortRead : ReadShape → Type 0
IsShortRead read.Nothing = ⊤
IsShortRead (read.Plain n) = IsBlockLength I2C_BLOCK_LIMIT n
IsShortRead read.Counted = ⊤

-- the call has an error code
abbrev pub is_coded : SmbCall → Bool
is_coded call = call.pec && (call_row call.op).checked

-- a message as it goes over the wires: the address byte, whose lowest bit is set in a read, and its bytes
abbrev pub write_on_wire : ℕ → Option (List ℕ) → List ℕ
write_on_wire addr None = []
write_on_wire addr (Some bytes) = 2 * addr ∷ bytes

abbrev pub read_on_wire : ℕ → List ℕ → List ℕ
read_on_wire addr bytes = (2 * addr + 1) ∷ bytes

-- a call that reads nothing has its error code after the bytes of its write
abbrev pub code_sent : ℕ → Bool → ReadShape → List ℕ → List ℕ
code_sent addr coded read.Nothing bytes = if coded then pec (write_on_wire addr (Some bytes)) ∷ [] else []
code_sent addr coded (read.Plain n) bytes = []
code_sent addr coded read.Counted bytes = []

-- the bytes that are written
abbrev pub bytes_sent : ℕ → Bool → ReadShape → Option (List ℕ) → List ℕ
bytes_sent addr coded r None = []
bytes_sent addr coded r (Some bytes) = bytes ++ code_sent addr coded r bytes

-- the messages; a read that has an error code asks for one byte more
abbrev pub write_messages : ℕ → Bool → ReadShape → Option (List ℕ) → List Msg
write_messages addr coded r None = []
write_messages addr coded r (Some bytes) = written addr (length (bytes_sent addr coded r (Some bytes))) ∷ []

abbrev pub read_messages : ℕ → Bool → ReadShape → List Msg
read_messages addr coded read.Nothing = []
read_messages addr coded (read.Plain n) = plain_read addr (if coded then n + 1 else n) ∷ []
read_messages addr coded read.Counted = counted_read addr coded ∷ []

abbrev pub transfer_by : SmbCall → CallRow → TransferView
transfer_by call row =
    record {
      bus = call.bus;
      kind = Smbus;
      force = call.force;
      msgs = write_messages call.addr (is_coded call) row.read row.write ++ read_messages call.addr (is_coded call) row.read;
      out = bytes_sent call.addr (is_coded call) row.read row.write;
    }

abbrev pub messages_of_call : SmbCall → TransferView
messages_of_call call = transfer_by call (call_row call.op)

-- the value of the bytes that were read, without an error code
abbrev pub value_by : ValueShape → List ℕ → ValueView
value_by shape.Done held = value.done
value_by shape.Byte held = value.byte (slice_index held 0)
value_by shape.Word held = value.word (slice_index held 0 + 256 * slice_index held 1)
value_by shape.Block held = value.block held
value_by shape.CountedBlock held = value.block (drop 1 held)

-- the last byte read is compared with the error code of all bytes before it, the address bytes among them
abbrev pub wanted_code : ℕ → CallRow → List ℕ → ℕ
wanted_code addr row held = pec (write_on_wire addr row.write ++ read_on_wire addr held)

abbrev pub checked_value : CallRow → List ℕ → ℕ → ℕ → Result ValueView SmbFail
checked_value row held got want = if got == want then Ok (value_by row.value held) else Err (fail.Pec got want)

abbrev pub read_value : ℕ → Bool → CallRow → List ℕ → Result ValueView SmbFail
read_value addr false row bytes = Ok (value_by row.value bytes)
read_value addr true row bytes =
    let held = take (length bytes - 1) bytes in
    checked_value row held (slice_index bytes (length bytes - 1)) (wanted_code addr row held)

abbrev pub value_of_call : SmbCall → Reply → Result ValueView SmbFail
value_of_call call reply.Done = Ok value.done
value_of_call call (reply.Read bytes) = read_value call.addr (is_coded call) (call_row call.op) bytes
value_of_call call (reply.Err errno) = Err (fail.Errno errno)

-- a value is made of at least so many bytes, and a read gives at least so many
abbrev pub bytes_needed : ValueShape → ℕ
bytes_needed shape.Done = 0
bytes_needed shape.Byte = 1
bytes_needed shape.Word = 2
bytes_needed shape.Block = 0
bytes_needed shape.CountedBlock = 1

abbrev pub least_read : ReadShape → ℕ
least_read read.Nothing = 0
least_read (read.Plain n) = n
least_read read.Counted = 2
